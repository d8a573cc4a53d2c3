use Rattle.std.proofs.Common.{rules, sym, ◌∙◌}
use Rattle.txn_overlay.proofs.Merges.{equal_step, greater_step, stands}
use Rattle.txn_overlay.proofs.merge.merge_rows.Goals as goal

pub loop-one-init : goal.loop-one-init
loop-one-init c = search (rules, stands)

pub loop-one-preserved-in-Equal-1 : goal.loop-one-preserved-in-Equal-1
loop-one-preserved-in-Equal-1 c =
    equal_step _ _ _ _ _ _ _ _ _ _ _ _ _ c.loop-one.invariant c.in-Some-Some.is-0 c.in-Some-Some.is-1 (sym c.order.ensures ∙ c.in-Equal.is) c.in_ok-push-in-Equal.ensures.items c.pop-one-in-Equal.ensures c.pop-other-in-Equal.ensures

pub loop-one-preserved : goal.loop-one-preserved
loop-one-preserved c =
    greater_step _ _ _ _ _ _ _ _ _ _ _ c.loop-one.invariant c.in-Some-Some.is-0 c.in-Some-Some.is-1 (sym c.order.ensures ∙ c.in-Greater.is) c.in_ok-push-in-Greater.ensures.items c.pop-other-in-Greater.ensures
