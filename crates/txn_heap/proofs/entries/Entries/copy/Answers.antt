use Rattle.txn_heap.proofs.Distinct.{ok_entries}
use Rattle.txn_heap.proofs.entries.Entries.copy.Goals as goal

pub returns : goal.returns
returns c = ok_entries c.of.result c.in_ok-copy_pairs.field-0 c.args.self.now c.in_ok-copy_pairs.ensures.value c.in_ok-copy_pairs.ensures.distinct c.of.ensures
