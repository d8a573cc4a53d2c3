use Rattle.rolled_rows.specs.Groups.{is_at, key, rows_in}
use Rattle.rolled_rows.proofs.Grouping.{row_more}
use Rattle.rolled_rows.proofs.groups.grouped.Goals as goal

pub rows-preserved : goal.rows-preserved
rows-preserved c = λ object field id.
    row_more (is_at c.args.schema.now object field id) c.args.rows.now c.rows.i c.index-rows-i.result (rows_in c.rows.groups (key object field id)) (rows_in c.add_row.new.groups (key object field id))
    c.rows-test.true c.index-rows-i.is (c.rows.invariant object field id) (c.in_ok-add_row.ensures object field id)
