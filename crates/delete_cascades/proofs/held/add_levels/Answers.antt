use Rattle.std.proofs.Common.{ap, ◌∙◌, List}
use Rattle.std.specs.Prelude.{◌||◌, bytes_eq}
use Rattle.indexmap.specs.IndexSet.{contains}
use Rattle.apex_rows.specs.declared.row.Row.{Row}
use Rattle.row_meaning.specs.Stores.{has_id}
use Rattle.save_meaning.specs.Inserts.{ids_of}
use Rattle.delete_cascades.proofs.Stays.{level_next}
use Rattle.delete_cascades.proofs.held.add_levels.Goals as goal

pub loop-rows-preserved : goal.loop-rows-preserved
loop-rows-preserved c = λ id.
    level_next id c.loop-rows.rows-index c.args.levels.now c.rows-item.result (contains bytes_eq c.loop-rows.ids id) (contains bytes_eq c.add_rows.new.ids id) _ c.loop-rows-test.true c.rows-item.is (c.loop-rows.invariant id)
    (c.in_ok-add_rows.ensures id ∙ ap (λ (rows : List Row). contains bytes_eq c.loop-rows.ids id || has_id (ids_of rows) id) c.as_slice.ensures)
