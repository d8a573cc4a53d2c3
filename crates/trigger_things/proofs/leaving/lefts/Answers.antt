use Rattle.trigger_things.proofs.Places.{lefts_more, lefts_over}
use Rattle.trigger_things.proofs.leaving.lefts.Goals as goal

pub all-preserved : goal.all-preserved
all-preserved c =
    lefts_more c.args.count c.all.i c.all.place c.next_place-place.result c.args.heap.now c.all.left _ _ _ c.all-test.true c.next_place-place.ensures c.in_ok-left_at.ensures c.in_ok-push.ensures.ok c.all.invariant

pub returns : goal.returns
returns c = lefts_over c.args.count c.all.i c.all.place c.args.heap.now c.all.left _ c.all-test.false c.all.invariant
