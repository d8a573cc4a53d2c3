use Rattle.std.proofs.Common.{◌≡◌, ◌&&◌, ◌||◌, eqb, ℕ, List, take}
use Rattle.std.specs.List.{list_any}
use Rattle.apex_num.specs.Ids.{IsId}
use Rattle.indexmap.specs.IndexSet.{contains}
use Rattle.seed_rows.specs.Keys.{key, key_eq}
use Rattle.seed_rows.specs.Written.{gives_id}
use Rattle.seed_rows.proofs.keys.add_row.Given as goal

abbrev pub invariant-loop-entry : goal.invariant-loop-entry
invariant-loop-entry l = (n : ℕ) (id : List ℕ) → IsId id → contains key_eq l.keys (key n id) ≡ (contains key_eq l.fn.keys (key n id) || (eqb l.object n && list_any (gives_id id) (take l.entry-index l.cells)))
