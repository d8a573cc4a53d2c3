use Rattle.std.proofs.Common.{◌≡◌, ◌≤◌, ℕ, List, drop, length}
use Rattle.std.specs.Prelude.{bytes_eq}
use Rattle.indexmap.specs.IndexSet.{contains}
use Rattle.row_meaning.specs.Stores.{has_id}
use Rattle.save_meaning.specs.Inserts.{ids_of}
use Rattle.record_checks.proofs.named.ids_among.Given as goal

abbrev pub invariant-back : goal.invariant-back
invariant-back l = (l.i ≤ length l.rows) × ((id : List ℕ) → contains bytes_eq l.ids id ≡ has_id (ids_of (drop l.i l.rows)) id)

abbrev pub decreases-back : goal.decreases-back
decreases-back l = l.i
