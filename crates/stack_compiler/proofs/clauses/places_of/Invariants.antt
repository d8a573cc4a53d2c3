use Rattle.std.proofs.Common.{◌≡◌, ◌++◌, drop, map}
use Rattle.stack_code.specs.Code.{clauses_from}
use Rattle.stack_compiler.specs.Clauses.{clause_of}
use Rattle.stack_compiler.proofs.clauses.places_of.Given as goal

abbrev pub invariant-loop-clause : goal.invariant-loop-clause
invariant-loop-clause l = l.all ++ clauses_from l.target (map clause_of (drop l.clause-index l.clauses)) ≡ clauses_from l.from (map clause_of l.clauses)
