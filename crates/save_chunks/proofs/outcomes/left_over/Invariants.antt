use Rattle.std.proofs.Common.{◌≡◌, ◌++◌}
use Rattle.save_statements.specs.Statements as spec
use Rattle.save_chunks.proofs.outcomes.left_over.Given as goal

abbrev pub invariant-loop-row : goal.invariant-loop-row
invariant-loop-row l = l.left ++ spec.left_over l.row-iterator.rest.items l.rest ≡ spec.left_over l.fn.rows l.told
