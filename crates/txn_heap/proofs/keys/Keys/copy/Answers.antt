use Rattle.std.proofs.Common.{◌∙◌}
use Rattle.txn_heap.proofs.Distinct.{ok_elements}
use Rattle.txn_heap.proofs.keys.Keys.copy.Goals as goal

pub returns : goal.returns
returns c = ok_elements c.of.result c.in_ok-copy_cells.field-0 c.args.self.now (c.in_ok-copy_cells.ensures ∙ c.as_slice.ensures.elements) c.as_slice.ensures.distinct c.of.ensures.value
