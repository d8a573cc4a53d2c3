use Rattle.std.proofs.Common.{◌≡◌, ◌≤◌, drop, length}
use Rattle.metered_vm.proofs.opens.stacked.Given as goal

abbrev pub invariant-values : goal.invariant-values
invariant-values l = (l.left ≤ length l.values) × (l.items ≡ drop l.left l.values)

abbrev pub decreases-values : goal.decreases-values
decreases-values l = l.left
