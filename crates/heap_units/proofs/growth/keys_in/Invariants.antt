use Rattle.std.proofs.Common.{◌≡◌, take}
use Rattle.txn_heap.specs.Words.{keys_of}
use Rattle.heap_units.proofs.growth.keys_in.Given as goal

abbrev pub invariant-loop-pair : goal.invariant-loop-pair
invariant-loop-pair l = l.keys ≡ keys_of (take l.pair-index l.pairs)
