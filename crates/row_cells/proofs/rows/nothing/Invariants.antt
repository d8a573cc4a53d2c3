use Rattle.std.proofs.Common.{◌≡◌, replicate, None}
use Rattle.row_cells.proofs.rows.nothing.Given as goal

abbrev pub invariant-loop : goal.invariant-loop
invariant-loop l = l.cells.items ≡ replicate l.counter None
