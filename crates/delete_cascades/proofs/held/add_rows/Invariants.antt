use Rattle.std.proofs.Common.{◌≡◌, ℕ, List, drop}
use Rattle.std.specs.Prelude.{◌||◌, bytes_eq}
use Rattle.indexmap.specs.IndexSet.{contains}
use Rattle.row_meaning.specs.Stores.{has_id}
use Rattle.save_meaning.specs.Inserts.{ids_of}
use Rattle.delete_cascades.proofs.held.add_rows.Given as goal

abbrev pub invariant-loop-row : goal.invariant-loop-row
invariant-loop-row l =
    (id : List ℕ) → (contains bytes_eq l.ids id || has_id (ids_of (drop l.row-index l.rows)) id) ≡ (contains bytes_eq l.initial.ids id || has_id (ids_of l.rows) id)
