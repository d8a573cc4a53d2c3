use Rattle.std.proofs.Common.{sym, ◌∙◌}
use Rattle.txn_heap.proofs.Prepared.{prepared_new}
use Rattle.txn_heap.proofs.statics.Statics.prepare.Goals as goal

pub returns-in-Ok : goal.returns-in-Ok
returns-in-Ok c = prepared_new c.args.class c.args.count c.self.inside.inner.entries c.args.self.now c.insert.new.self.entries c.in_ok-values.values c.self.view_is (sym c.is_prepared.ensures ∙ c.if-is_prepared.false) c.in_ok-values.ensures c.in-Ok.ensures.entries
