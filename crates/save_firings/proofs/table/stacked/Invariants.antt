use Rattle.std.proofs.Common.{◌≡◌, ◌≤◌, drop, length}
use Rattle.save_firings.proofs.table.stacked.Given as goal

abbrev pub invariant-back : goal.invariant-back
invariant-back l = (l.i ≤ length l.triggers) × (l.stack ≡ drop l.i l.triggers)

abbrev pub decreases-back : goal.decreases-back
decreases-back l = l.i
