use Rattle.std.proofs.Common.{All, take, ◌<◌}
use Rattle.stack_code.specs.declared.image.Clause.{Clause}
use Rattle.program_checks.proofs.check.check_clauses.Given as goal

abbrev pub invariant-loop-clause : goal.invariant-loop-clause
invariant-loop-clause l = All (λ (c : Clause). c.target < l.left) (take l.clause-index l.clauses)
