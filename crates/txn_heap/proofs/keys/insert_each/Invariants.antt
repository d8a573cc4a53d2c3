use Rattle.std.proofs.Common.{◌≡◌, ◌≤◌, ◌+◌, ◌++◌, length}
use Rattle.indexmap.specs.IndexSet.{insert_all, spare}
use Rattle.txn_heap.specs.Equal.{same}
use Rattle.txn_heap.proofs.keys.insert_each.Given as goal

abbrev pub invariant-loop-key : goal.invariant-loop-key
invariant-loop-key l = record {
  made : l.inner.keys ≡ insert_all same l.initial.inner.keys l.yielded;
  rest : l.yielded ++ l.key-iterator.rest.items ≡ l.fn.more.items;
  room : length l.fn.more.items ≤ length l.yielded + spare l.inner;
}
