use Rattle.std.proofs.Common.{◌≡◌, ◌≤◌, ℕ, List, drop, length}
use Rattle.row_meaning.specs.Accesses.{shared}
use Rattle.row_access.specs.Views.{level_in}
use Rattle.row_access.proofs.levels.levels_of.Given as goal

abbrev pub invariant-back : goal.invariant-back
invariant-back l = (l.i ≤ length l.shares) × ((id : List ℕ) → level_in l.levels id ≡ shared (drop l.i l.shares) id l.user)

abbrev pub decreases-back : goal.decreases-back
decreases-back l = l.i
