use Rattle.std.proofs.Common.{◌≡◌, ℕ, List, drop}
use Rattle.std.specs.Prelude.{◌||◌, bytes_eq}
use Rattle.indexmap.specs.IndexSet.{contains}
use Rattle.row_meaning.specs.Stores.{has_id}
use Rattle.save_meaning.specs.Inserts.{ids_of}
use Rattle.save_statements.specs.Checks.{joined}
use Rattle.delete_cascades.proofs.held.add_levels.Given as goal

abbrev pub invariant-loop-rows : goal.invariant-loop-rows
invariant-loop-rows l =
    (id : List ℕ) → (contains bytes_eq l.ids id || has_id (ids_of (joined (drop l.rows-index l.levels))) id) ≡ (contains bytes_eq l.initial.ids id || has_id (ids_of (joined l.levels)) id)
