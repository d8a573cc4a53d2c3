use Rattle.std.proofs.Common.{ap, ◌∙◌, List, ℕ}
use Rattle.std.specs.Prelude.{◌||◌, bytes_eq}
use Rattle.std.specs.List.{list_any}
use Rattle.indexmap.specs.IndexSet.{contains}
use Rattle.row_meaning.specs.Stores.{has_id}
use Rattle.save_meaning.specs.Inserts.{ids_of}
use Rattle.save_statements.specs.Checks.{joined}
use Rattle.save_statements.specs.Records.{going, rows_of}
use Rattle.delete_cascades.proofs.Stays.{gone_is}
use Rattle.delete_cascades.proofs.held.gone_ids.Goals as goal

pub returns : goal.returns
returns c = λ id.
    gone_is (rows_of (going c.args.records.now)) (joined c.args.levels.now) id (contains bytes_eq c.add_records.new.ids id) _
    (c.in_ok-add_records.ensures id ∙ ap (λ (ids : List (List ℕ)). list_any (bytes_eq id) ids || has_id (ids_of (rows_of (going c.args.records.now))) id) c.new-ids.ensures.empty)
    (c.in_ok-add_levels.ensures id)
