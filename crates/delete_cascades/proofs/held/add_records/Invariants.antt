use Rattle.std.proofs.Common.{◌≡◌, ℕ, List, drop}
use Rattle.std.specs.Prelude.{◌||◌, bytes_eq}
use Rattle.indexmap.specs.IndexSet.{contains}
use Rattle.row_meaning.specs.Stores.{has_id}
use Rattle.save_meaning.specs.Inserts.{ids_of}
use Rattle.save_statements.specs.Records.{going, rows_of}
use Rattle.delete_cascades.proofs.held.add_records.Given as goal

abbrev pub invariant-loop-one : goal.invariant-loop-one
invariant-loop-one l =
    (id : List ℕ) → (contains bytes_eq l.ids id || has_id (ids_of (rows_of (going (drop l.one-index l.records)))) id) ≡ (contains bytes_eq l.initial.ids id || has_id (ids_of (rows_of (going l.records))) id)
