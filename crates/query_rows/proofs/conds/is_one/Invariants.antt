use Rattle.std.proofs.Common.{◌≡◌, drop}
use Rattle.std.specs.List.{list_any}
use Rattle.row_meaning.specs.Cells.{same_cell}
use Rattle.query_rows.proofs.conds.is_one.Given as goal

abbrev pub invariant-loop-cell : goal.invariant-loop-cell
invariant-loop-cell l = list_any (same_cell l.a) (drop l.cell-index l.cells) ≡ list_any (same_cell l.a) l.cells
