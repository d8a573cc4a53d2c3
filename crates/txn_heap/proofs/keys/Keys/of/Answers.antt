use Rattle.std.proofs.Common.{◌∙◌, ap}
use Rattle.indexmap.specs.IndexSet.{insert_all}
use Rattle.txn_heap.specs.Equal.{same}
use Rattle.txn_heap.proofs.Distinct.{elements_kept}
use Rattle.txn_heap.proofs.keys.Keys.of.Goals as goal

pub returns-clause-kept : goal.returns-clause-kept
returns-clause-kept c = λ distinct. c.in_ok-insert_all.ensures ∙ ap (λ ks. insert_all same ks c.args.elements) c.new-keys.ensures ∙ elements_kept c.args.elements distinct
