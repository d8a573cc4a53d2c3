use Rattle.std.proofs.Common.{arith}
use Rattle.std.proofs.lemmas.Result.{MatchResult-weaker}
use Rattle.txn_heap.specs.Changes.{thing_after}
use Rattle.txn_heap.proofs.Places.{seen_here, seen_past, seen_unchanged}
use Rattle.txn_heap.proofs.heap.Heap.change.Goals as goal

pub returns-then-on-len : goal.returns-then-on-len
returns-then-on-len c =
    let xs = c.self.inside.things.items in
    let i = c.args.on.place in
    let d = c.index_mut.result.now in
    MatchResult-weaker c.change.result c.change.ensures
    (λ _ h. seen_here xs c.args.self.now i d c.change.new.self (thing_after c.args.change) c.self.view_is c.index_mut.ensures.value h)
    (λ _ h. seen_unchanged xs c.args.self.now i d c.change.new.self c.self.view_is c.index_mut.ensures.value h)

pub returns-else-on-len : goal.returns-else-on-len
returns-else-on-len c = seen_past c.self.inside.things.items c.args.self.now c.args.on.place (thing_after c.args.change) c.self.view_is (omega arith)
