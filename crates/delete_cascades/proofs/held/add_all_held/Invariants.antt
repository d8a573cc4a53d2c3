use Rattle.std.proofs.Common.{◌≡◌, ℕ, List, drop}
use Rattle.std.specs.Prelude.{◌||◌, bytes_eq}
use Rattle.std.specs.List.{list_any}
use Rattle.indexmap.specs.IndexSet.{contains}
use Rattle.delete_cascades.specs.Held.{holds}
use Rattle.delete_cascades.proofs.held.add_all_held.Given as goal

abbrev pub invariant-loop-row : goal.invariant-loop-row
invariant-loop-row l =
    (id : List ℕ) → (contains bytes_eq l.held id || list_any (holds (contains bytes_eq l.gone) l.naming id) (drop l.row-index l.rows)) ≡ (contains bytes_eq l.initial.held id || list_any (holds (contains bytes_eq l.gone) l.naming id) l.rows)
