use Rattle.std.proofs.Common.{sym, ◌∙◌}
use Rattle.bundle_read.proofs.Steps.{then_tells}
use Rattle.bundle_read.proofs.Items.{filled_some}
use Rattle.bundle_read.proofs.schema.users.Goals as goal

pub returns : goal.returns
returns c =
    let list = c.in_ok-list.list.now in
    then_tells c.each.result _ _ _ c.in_ok-list.ensures
    (then_tells c.each.result _ _ _ (filled_some list (sym c.is_empty.ensures ∙ c.if-is_empty.false)) (then_tells c.each.result _ _ _ c.in_ok-short.ensures c.each.ensures))
