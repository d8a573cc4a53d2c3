use Rattle.heap_methods.specs.Methods.{outcome}
use Rattle.heap_methods.proofs.call.call_method.Goals as goal

pub returns : goal.returns
returns c = c.carry.ensures (outcome c.args.which c.args.on.place c.args.args.now c.args.heap.now) c.plan_call-plan.ensures
