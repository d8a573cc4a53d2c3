use Rattle.std.proofs.Common.{◌≡◌, take, map}
use Rattle.txn_heap.specs.declared.thing.Value.TheVariants.{Plain}
use Rattle.heap_methods.proofs.making.list_keys.Given as goal

abbrev pub invariant-loop-key : goal.invariant-loop-key
invariant-loop-key l = l.done ≡ map Plain (take l.key-index l.keys)
