use Rattle.std.proofs.Common.{◌≡◌, ◌≤◌, ℕ, false, drop, length}
use Rattle.std.specs.Prelude.{eqb}
use Rattle.std.specs.List.{list_any}
use Rattle.indexmap.specs.IndexSet.{contains}
use Rattle.save_meaning.specs.Inserts.{is_double}
use Rattle.save_chunks.specs.Keys.{keys_of}
use Rattle.save_chunks.proofs.doubles.has_double.Given as goal

abbrev pub invariant-back : goal.invariant-back
invariant-back l =
    (l.i ≤ length l.rows) × ((n : ℕ) → contains eqb l.keys n ≡ list_any (eqb n) (keys_of (drop l.i l.rows))) × (is_double (keys_of (drop l.i l.rows)) ≡ false)

abbrev pub decreases-back : goal.decreases-back
decreases-back l = l.i
