use Rattle.std.proofs.Common.{◌≡◌, drop}
use Rattle.std.specs.List.{list_any}
use Rattle.txn_heap.specs.Words.{has}
use Rattle.heap_methods.specs.Members.{agrees}
use Rattle.heap_methods.proofs.sets.any.Given as goal

abbrev pub invariant-loop-cell : goal.invariant-loop-cell
invariant-loop-cell l = list_any (λ k. agrees l.member (has k l.keys)) (drop l.cell-index l.cells) ≡ list_any (λ k. agrees l.member (has k l.keys)) l.cells
