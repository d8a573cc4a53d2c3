use Rattle.save_chunks.proofs.Failing.{none_left, told_all}
use Rattle.save_chunks.proofs.outcomes.tell.Goals as goal

pub returns : goal.returns
returns c =
    told_all c.loop-one.told c.loop-one.rest.now c.loop-one.one-iterator.rest.items _
    (none_left c.loop-one.one-iterator.rest.items c.loop-one.one-iterator.rest.len c.loop-one.one-iterator.rest.ok.0 c.in-None.ensures.steps.0) c.loop-one.invariant
