use Rattle.std.proofs.Common.{◌≡◌, ◌≤◌, ℕ, List, drop, length}
use Rattle.save_loading.specs.Places.{HasPlaces}
use Rattle.save_loading.proofs.by_id.places_of.Given as goal

abbrev pub invariant-back : goal.invariant-back
invariant-back l = (l.i ≤ length l.rows) × HasPlaces l.places l.rows (drop l.i l.rows)

abbrev pub decreases-back : goal.decreases-back
decreases-back l = l.i
