use Rattle.std.proofs.Common.{◌≡◌, None, replicate}
use Rattle.query_records.proofs.cells.no_cells.Given as goal

abbrev pub invariant-loop-i : goal.invariant-loop-i
invariant-loop-i l = l.cells ≡ replicate l.i None
