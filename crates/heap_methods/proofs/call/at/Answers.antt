use Rattle.std.proofs.Common.{Option, subst}
use Rattle.txn_heap.specs.declared.thing.Thing.{Thing}
use Rattle.heap_methods.specs.Methods.{on_thing}
use Rattle.heap_methods.specs.Plans.{Plans}
use Rattle.heap_methods.proofs.call.at.Goals as goal

pub returns : goal.returns
returns c = subst (λ (there : Option Thing). Plans (on_thing c.args.which c.args.heap.now there c.args.args.now) there c.on_thing.result) c.get.ensures c.on_thing.ensures
