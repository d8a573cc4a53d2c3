use Rattle.std.proofs.Common.{◌≡◌, ◌≤◌, ◌*◌, ◌-◌, ◌^◌, drop, length}
use Rattle.std.specs.Prelude.{unsigned_abs}
use Rattle.row_meaning.specs.Rollups.{numbers, total}
use Rattle.rollups.proofs.sums.part.Given as goal

abbrev pub invariant-back : goal.invariant-back
invariant-back l = (l.i ≤ length l.rows) × (l.sum ≡ total (numbers l.field (drop l.i l.rows))) × (unsigned_abs l.sum ≤ (length l.rows - l.i) * 10 ^ 19)

abbrev pub decreases-back : goal.decreases-back
decreases-back l = l.i
