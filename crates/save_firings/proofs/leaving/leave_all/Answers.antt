use Rattle.save_firings.proofs.Lefts.{all_done}
use Rattle.save_firings.proofs.leaving.leave_all.Goals as goal

pub returns : goal.returns
returns c =
    all_done c.loop-entry.left c.loop-entry.after c.loop-entry.entry-iterator.rest.items _ c.loop-entry.entry-iterator.rest.len c.loop-entry.entry-iterator.rest.ok.0 c.in-None.ensures.steps.0
    c.loop-entry.invariant
