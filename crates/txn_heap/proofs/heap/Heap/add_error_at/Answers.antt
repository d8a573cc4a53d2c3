use Rattle.std.proofs.Common.{arith}
use Rattle.txn_heap.specs.Guards.{thing_with}
use Rattle.txn_heap.proofs.Places.{seen_here, seen_past}
use Rattle.txn_heap.proofs.heap.Heap.add_error_at.Goals as goal

pub returns-then-place-len : goal.returns-then-place-len
returns-then-place-len c =
    seen_here c.self.inside.things.items c.args.self.now c.args.place c.index_mut.result.now c.add_error.new.self (thing_with c.args.message) c.self.view_is c.index_mut.ensures.value c.add_error.ensures

pub returns-else-place-len : goal.returns-else-place-len
returns-else-place-len c = seen_past c.self.inside.things.items c.args.self.now c.args.place (thing_with c.args.message) c.self.view_is (omega arith)
