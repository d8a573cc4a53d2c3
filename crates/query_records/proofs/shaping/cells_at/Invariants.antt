use Rattle.std.proofs.Common.{◌≡◌, ◌++◌, drop}
use Rattle.query_records.specs.Shapes.{cells_at}
use Rattle.query_records.proofs.shaping.cells_at.Given as goal

abbrev pub invariant-loop-place : goal.invariant-loop-place
invariant-loop-place l = l.cells ++ cells_at (drop l.place-index l.selected) l.way ≡ cells_at l.selected l.way
