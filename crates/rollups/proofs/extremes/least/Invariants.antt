use Rattle.std.proofs.Common.{◌≡◌, ◌≤◌, drop, length}
use Rattle.std.specs.Prelude.{int_lt}
use Rattle.row_meaning.specs.Rollups.{chosen, numbers}
use Rattle.rollups.proofs.extremes.least.Given as goal

abbrev pub invariant-back : goal.invariant-back
invariant-back l = (l.i ≤ length l.rows) × (l.found ≡ chosen int_lt (numbers l.field (drop l.i l.rows)))

abbrev pub decreases-back : goal.decreases-back
decreases-back l = l.i
