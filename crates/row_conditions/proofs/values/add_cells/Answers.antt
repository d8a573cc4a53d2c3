use Rattle.row_meaning.specs.Cells.{same_cell}
use Rattle.row_conditions.proofs.Keys.{any_more}
use Rattle.row_conditions.proofs.values.add_cells.Goals as goal

pub loop-cell-preserved : goal.loop-cell-preserved
loop-cell-preserved c = λ q.
    any_more (same_cell q) c.args.cells.now c.loop-cell.cell-index c.cell-item.result c.loop-cell-test.true c.cell-item.is _ _ _ (c.loop-cell.invariant q) (c.in_ok-add.ensures q)
