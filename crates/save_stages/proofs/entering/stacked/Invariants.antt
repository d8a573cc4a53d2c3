use Rattle.std.proofs.Common.{◌≡◌, ◌++◌, length}
use Rattle.save_stages.proofs.entering.stacked.Given as goal

abbrev pub invariant-loop-one : goal.invariant-loop-one
invariant-loop-one l = l.records ++ l.stack ≡ l.fn.records

abbrev pub decreases-loop-one : goal.decreases-loop-one
decreases-loop-one l = length l.records
