use Rattle.std.proofs.Common.{◌∙◌, sym}
use Rattle.txn_heap.proofs.Written.{set_found, set_missing}
use Rattle.txn_heap.proofs.statics.Statics.set.Goals as goal

pub returns-in-Some : goal.returns-in-Some
returns-in-Some c =
    set_found c.args.class c.in-Some.index c.args.place c.args.value c.self.inside.inner.entries c.args.self.now c.set_at.new.inner.entries c.self.view_is (sym c.get_index_of.ensures.index ∙ c.in-Some.is) c.set_at.ensures

pub returns-in_default : goal.returns-in_default
returns-in_default c = set_missing c.args.class c.args.place c.args.value c.self.inside.inner.entries c.args.self.now c.self.view_is (sym c.get_index_of.ensures.index ∙ c.in_default.is)
