use Rattle.std.proofs.Common.{◌≡◌, ◌++◌, map}
use Rattle.stack_code.specs.Code.{clauses_code, clauses_length}
use Rattle.stack_compiler.specs.Clauses.{clause_of}
use Rattle.stack_compiler.proofs.clauses.add_clauses.Given as goal

abbrev pub invariant-loop-clause : goal.invariant-loop-clause
invariant-loop-clause l =
    (l.code.items ++ clauses_code (map clause_of l.clause-iterator.rest.items) ≡ l.fn.code.items ++ clauses_code (map clause_of l.fn.clauses.items)) × (l.left ≡ clauses_length (map clause_of l.clause-iterator.rest.items))
