use Rattle.std.proofs.Common.{◌++◌, ap, ◌∙◌}
use Rattle.save_firings.proofs.Listings.{longer_within}
use Rattle.save_firings.proofs.table.add_within.Goals as goal

pub returns : goal.returns
returns c =
    longer_within c.args.lists.now c.into_vec-all.result.items c.of.result c.args.object c.index_mut.result.now _ c.add_copies.new.list c.args.triggers.now
    (c.into_vec-all.ensures ∙ c.replace.ensures.value) c.requires c.index_mut.ensures.value (c.in_ok-add_copies.ensures ∙ ap (λ ts. ts ++ c.args.triggers.now) c.replace-list.ensures.value) c.of.ensures
