use Rattle.std.proofs.Common.{take}
use Rattle.row_cells.proofs.RowSteps.{SoFar}
use Rattle.row_cells.proofs.rows.cells.Given as goal

abbrev pub invariant-entries : goal.invariant-entries
invariant-entries l = SoFar l.fields (take l.i l.entries) l.cells.items
