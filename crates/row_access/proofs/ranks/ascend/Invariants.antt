use Rattle.std.proofs.Common.{◌-◌, length}
use Rattle.row_access.proofs.Ascents.{Climbed}
use Rattle.row_access.proofs.ranks.ascend.Given as goal

abbrev pub invariant-up : goal.invariant-up
invariant-up l = Climbed l.roles l.wanted l.from l.steps l.at

abbrev pub decreases-up : goal.decreases-up
decreases-up l = length l.roles - l.steps
