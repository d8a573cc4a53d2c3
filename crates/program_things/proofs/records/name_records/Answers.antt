use Rattle.program_things.proofs.Lists.{none_left}
use Rattle.program_things.proofs.records.name_records.Goals as goal

pub returns-in_default : goal.returns-in_default
returns-in_default c = none_left c.loop-i.i c.args.places.now c.args.outcomes.now c.loop-i.heap _ c.in_default.ensures.lookup.3 c.loop-i.invariant
