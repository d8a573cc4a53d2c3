use Rattle.std.proofs.Common.{◌≡◌, ◌+◌, ◌++◌, length}
use Rattle.save_statements.specs.Statements as spec
use Rattle.save_chunks.proofs.cuts.placed.Given as goal

abbrev pub invariant-loop-row : goal.invariant-loop-row
invariant-loop-row l =
    (l.all ++ spec.placed l.place l.row-iterator.rest.items ≡ spec.placed 0 l.fn.rows)
    × (l.place + length l.row-iterator.rest.items ≡ length l.fn.rows)
