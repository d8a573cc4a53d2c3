use Rattle.std.proofs.Common.{◌≡◌, ◌≤◌, drop, length}
use Rattle.row_meaning.specs.Rollups.{chosen, numbers}
use Rattle.rollups.specs.Parts.{after}
use Rattle.rollups.proofs.extremes.greatest.Given as goal

abbrev pub invariant-back : goal.invariant-back
invariant-back l = (l.i ≤ length l.rows) × (l.found ≡ chosen after (numbers l.field (drop l.i l.rows)))

abbrev pub decreases-back : goal.decreases-back
decreases-back l = l.i
