use Rattle.std.proofs.Common.{◌≡◌, ℕ, List, drop}
use Rattle.std.specs.Prelude.{◌||◌, bytes_eq}
use Rattle.indexmap.specs.IndexSet.{contains}
use Rattle.delete_cascades.specs.Held.{held_by}
use Rattle.delete_cascades.proofs.held.held_ids.Given as goal

abbrev pub invariant-loop-one : goal.invariant-loop-one
invariant-loop-one l =
    (id : List ℕ) → (contains bytes_eq l.held id || held_by (contains bytes_eq l.gone) (drop l.one-index l.found) id) ≡ held_by (contains bytes_eq l.gone) l.found id
