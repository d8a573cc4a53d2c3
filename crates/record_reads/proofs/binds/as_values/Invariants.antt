use Rattle.std.proofs.Common.{◌≡◌, ◌++◌, drop, map}
use Rattle.txn_heap.specs.declared.thing.Value.TheVariants.{Plain}
use Rattle.record_reads.proofs.binds.as_values.Given as goal

abbrev pub invariant-loop-cell : goal.invariant-loop-cell
invariant-loop-cell l = l.values ++ map Plain (drop l.cell-index l.cells) ≡ map Plain l.cells
