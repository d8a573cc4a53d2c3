use Rattle.txn_heap.specs.Equal.{same}
use Rattle.txn_heap.specs.Words.{has}
use Rattle.heap_methods.specs.Members.{agrees}
use Rattle.heap_methods.proofs.Kept.{ok_kept}
use Rattle.heap_methods.proofs.sets.kept_keys.Goals as goal

pub returns : goal.returns
returns c =
    ok_kept same (λ k. agrees c.args.member (has k c.args.others.now)) c.of.result c.args.keys.now c.as_slice.result.now c.in_ok-kept.field-0 c.in_ok-kept.ensures c.as_slice.ensures.elements c.as_slice.ensures.distinct c.of.ensures.kept
