use Rattle.std.specs.Map.Iter.{deref_pair}
use Rattle.txn_overlay.proofs.Steps.{seen_now, seen_other, seen_gone}
use Rattle.txn_overlay.proofs.overlay.Overlay.rows_of.Goals as goal

pub loop-change-preserved-in_ok-push : goal.loop-change-preserved-in_ok-push
loop-change-preserved-in_ok-push c =
    seen_now deref_pair c.args.object c.loop-change.yielded (c.in-Some.field-0-0, c.in-Some.change) _ _ _ _ c.in-Now.is c.if-row-object.true c.in_ok-copy.ensures c.loop-change.invariant c.in_ok-push.ensures.items

pub loop-change-preserved-else-row-object : goal.loop-change-preserved-else-row-object
loop-change-preserved-else-row-object c = seen_other deref_pair c.args.object c.loop-change.yielded (c.in-Some.field-0-0, c.in-Some.change) _ _ c.in-Now.is c.if-row-object.false c.loop-change.invariant

pub loop-change-preserved : goal.loop-change-preserved
loop-change-preserved c = seen_gone deref_pair c.args.object c.loop-change.yielded (c.in-Some.field-0-0, c.in-Some.change) _ c.in_default.is c.loop-change.invariant
