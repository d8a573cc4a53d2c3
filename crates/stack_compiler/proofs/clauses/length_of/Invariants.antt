use Rattle.std.proofs.Common.{◌≡◌, ◌+◌, drop, map}
use Rattle.stack_code.specs.Code.{clauses_length}
use Rattle.stack_compiler.specs.Clauses.{clause_of}
use Rattle.stack_compiler.proofs.clauses.length_of.Given as goal

abbrev pub invariant-loop-clause : goal.invariant-loop-clause
invariant-loop-clause l = l.length + clauses_length (map clause_of (drop l.clause-index l.clauses)) ≡ clauses_length (map clause_of l.clauses)
