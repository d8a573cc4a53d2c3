use Rattle.std.proofs.Common.{◌≡◌, drop}
use Rattle.std.specs.List.{list_all}
use Rattle.txn_heap.specs.Words.{has}
use Rattle.heap_methods.proofs.sets.all.Given as goal

abbrev pub invariant-loop-cell : goal.invariant-loop-cell
invariant-loop-cell l = list_all (λ k. has k l.keys) (drop l.cell-index l.cells) ≡ list_all (λ k. has k l.keys) l.cells
