use Rattle.save_deletes.specs.Heads.{ids_in}
use Rattle.save_deletes.proofs.Sets.{row_next}
use Rattle.save_deletes.proofs.heads.add_rows.Goals as goal

pub loop-row-preserved : goal.loop-row-preserved
loop-row-preserved c = λ object.
    row_next object c.loop-row.row-index c.args.rows.now c.row-item.result (ids_in c.loop-row.sets object) (ids_in c.add_row.new.sets object) _ c.loop-row-test.true c.row-item.is (c.loop-row.invariant object) (c.in_ok-add_row.ensures object)
