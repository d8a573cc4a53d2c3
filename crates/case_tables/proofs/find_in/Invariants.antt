use Rattle.std.proofs.Common.{◌-◌}
use Rattle.case_tables.proofs.Found.{Parts}
use Rattle.case_tables.proofs.find_in.Given as goal

abbrev pub invariant-loop-low : goal.invariant-loop-low
invariant-loop-low g l = Parts g.R.Keyed.key l.table l.key l.low l.high

abbrev pub decreases-loop-low : goal.decreases-loop-low
decreases-loop-low g l = l.high - l.low
