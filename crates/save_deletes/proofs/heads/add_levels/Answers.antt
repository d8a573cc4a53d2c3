use Rattle.std.proofs.Common.{ap, ◌∙◌, List}
use Rattle.apex_rows.specs.declared.row.Row.{Row}
use Rattle.row_meaning.specs.Stores.{of_object}
use Rattle.save_meaning.specs.Drafts.{with_ids}
use Rattle.save_meaning.specs.Inserts.{ids_of}
use Rattle.save_deletes.specs.Heads.{ids_in}
use Rattle.save_deletes.proofs.Sets.{level_next}
use Rattle.save_deletes.proofs.heads.add_levels.Goals as goal

pub loop-rows-preserved : goal.loop-rows-preserved
loop-rows-preserved c = λ object.
    level_next object c.loop-rows.rows-index c.args.levels.now c.rows-item.result (ids_in c.loop-rows.sets object) (ids_in c.add_rows.new.sets object) _ c.loop-rows-test.true c.rows-item.is (c.loop-rows.invariant object)
    (c.in_ok-add_rows.ensures object ∙ ap (λ (rows : List Row). with_ids (ids_of (of_object object rows)) (ids_in c.loop-rows.sets object)) c.as_slice.ensures)
