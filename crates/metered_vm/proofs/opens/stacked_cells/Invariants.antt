use Rattle.std.proofs.Common.{◌≡◌, ◌≤◌, drop, length, map}
use Rattle.txn_heap.specs.declared.thing.Value.TheVariants.{Plain}
use Rattle.metered_vm.proofs.opens.stacked_cells.Given as goal

abbrev pub invariant-cells : goal.invariant-cells
invariant-cells l = (l.left ≤ length l.cells) × (l.items ≡ map Plain (drop l.left l.cells))

abbrev pub decreases-cells : goal.decreases-cells
decreases-cells l = l.left
