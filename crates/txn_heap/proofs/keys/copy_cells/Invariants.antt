use Rattle.std.proofs.Common.{◌≡◌, take}
use Rattle.txn_heap.proofs.keys.copy_cells.Given as goal

abbrev pub invariant-loop-cell : goal.invariant-loop-cell
invariant-loop-cell l = l.copy ≡ take l.cell-index l.cells
