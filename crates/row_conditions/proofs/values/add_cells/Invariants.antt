use Rattle.std.proofs.Common.{◌≡◌, ◌||◌, take}
use Rattle.std.specs.List.{list_any}
use Rattle.apex_num.specs.declared.cell.Cell.{Cell}
use Rattle.row_meaning.specs.Cells.{same_cell}
use Rattle.row_conditions.specs.Keys.{has}
use Rattle.row_conditions.proofs.values.add_cells.Given as goal

abbrev pub invariant-loop-cell : goal.invariant-loop-cell
invariant-loop-cell l = (c : Cell) → has l.set c ≡ (has l.fn.set c || list_any (same_cell c) (take l.cell-index l.cells))
