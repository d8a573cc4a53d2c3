use Rattle.std.proofs.Common.{◌≡◌, ◌++◌, length}
use Rattle.save_firings.proofs.leaving.stacked.Given as goal

abbrev pub invariant-loop-one : goal.invariant-loop-one
invariant-loop-one l = l.left ++ l.stack ≡ l.fn.left

abbrev pub decreases-loop-one : goal.decreases-loop-one
decreases-loop-one l = length l.left
