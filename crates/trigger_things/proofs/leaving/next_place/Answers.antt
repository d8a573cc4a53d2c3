use Rattle.std.proofs.Common.{arith, inr}
use Rattle.trigger_things.proofs.Places.{next_within}
use Rattle.trigger_things.proofs.leaving.next_place.Goals as goal

pub returns-then-place-len : goal.returns-then-place-len
returns-then-place-len c = next_within c.args.place c.saturating_add.result c.len.result _ c.saturating_add.ensures c.len.ensures (omega arith)

pub returns-else-place-len : goal.returns-else-place-len
returns-else-place-len c = inr (omega arith, omega arith)
