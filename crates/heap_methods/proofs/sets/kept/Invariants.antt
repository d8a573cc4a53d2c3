use Rattle.std.proofs.Common.{◌≡◌, ◌++◌, drop, filter}
use Rattle.txn_heap.specs.Words.{has}
use Rattle.heap_methods.specs.Members.{agrees}
use Rattle.heap_methods.proofs.sets.kept.Given as goal

abbrev pub invariant-loop-cell : goal.invariant-loop-cell
invariant-loop-cell l = l.done ++ filter (λ k. agrees l.member (has k l.keys)) (drop l.cell-index l.cells) ≡ filter (λ k. agrees l.member (has k l.keys)) l.cells
