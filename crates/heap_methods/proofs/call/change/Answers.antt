use Rattle.heap_methods.proofs.Carried.{changes_done}
use Rattle.heap_methods.proofs.call.change.Goals as goal

pub returns-in-Ok : goal.returns-in-Ok
returns-in-Ok c = changes_done c.args.on.place c.args.heap.now c.change.new.self c.args.change c.args.answer c.in-Ok.ensures
