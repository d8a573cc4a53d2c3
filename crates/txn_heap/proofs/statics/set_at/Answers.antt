use Rattle.std.proofs.Common.{◌∙◌, ap, sym}
use Rattle.std.specs.Option.{option_copied_mut}
use Rattle.txn_heap.proofs.Written.{set_there, none_there}
use Rattle.indexmap.specs.IndexMap.{set_value_at}
use Rattle.txn_heap.proofs.statics.set_at.Goals as goal

pub returns-in-Some : goal.returns-in-Some
returns-in-Some c =
    ap (set_value_at c.args.inner.now.entries c.args.index) c.set_item.ensures
    ∙ set_there c.args.index c.args.place c.args.value c.args.inner.now.entries c.in-Some.values.now (ap option_copied_mut (sym c.in-Some.is) ∙ c.get_index_mut.ensures.value)

pub returns-in_default : goal.returns-in_default
returns-in_default c = none_there c.args.index c.args.place c.args.value c.args.inner.now.entries (ap option_copied_mut (sym c.in_default.is) ∙ c.get_index_mut.ensures.value)
