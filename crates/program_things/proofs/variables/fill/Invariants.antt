use Rattle.std.proofs.Common.{◌≡◌, ◌-◌, length}
use Rattle.txn_heap.specs.declared.thing.Value.{Value}
use Rattle.request_states.specs.States.{put_at}
use Rattle.program_things.proofs.variables.fill.Given as goal

abbrev pub invariant-fill : goal.invariant-fill
invariant-fill l = (v : Value) → put_at l.slot v l.locals ≡ put_at l.slot v l.fn.locals

abbrev pub decreases-fill : goal.decreases-fill
decreases-fill l = l.slot - length l.locals
