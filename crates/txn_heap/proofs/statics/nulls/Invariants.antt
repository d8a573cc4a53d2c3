use Rattle.std.proofs.Common.{◌≡◌, replicate}
use Rattle.apex_num.specs.declared.cell.Cell.TheVariants.{Null}
use Rattle.txn_heap.specs.declared.thing.Value.TheVariants.{Plain}
use Rattle.txn_heap.proofs.statics.nulls.Given as goal

abbrev pub invariant-loop-i : goal.invariant-loop-i
invariant-loop-i l = l.values ≡ replicate l.i (Plain Null)
