use Rattle.heap_units.proofs.Longer.{no_element}
use Rattle.heap_units.proofs.growth.set_growth.Goals as goal

pub returns-in_default : goal.returns-in_default
returns-in_default c = no_element c.args.change.now c.args.keys.now c.in_default.not-Add c.in_default.not-AddAll
