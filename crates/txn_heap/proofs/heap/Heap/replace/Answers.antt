use Rattle.std.proofs.Common.{arith}
use Rattle.txn_heap.proofs.Places.{seen_here, seen_past}
use Rattle.txn_heap.proofs.heap.Heap.replace.Goals as goal

pub returns-then-on-len : goal.returns-then-on-len
returns-then-on-len c =
    seen_here c.self.inside.things.items c.args.self.now c.args.on.place c.index_mut.result.now c.put_in_place.new.self (λ _. c.args.thing) c.self.view_is c.index_mut.ensures.value c.put_in_place.ensures

pub returns-else-on-len : goal.returns-else-on-len
returns-else-on-len c = seen_past c.self.inside.things.items c.args.self.now c.args.on.place (λ _. c.args.thing) c.self.view_is (omega arith)
