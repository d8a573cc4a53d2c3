use Rattle.std.proofs.Common.{slice_get, sym, ◌∙◌}
use Rattle.txn_heap.specs.Guards.{guard_of}
use Rattle.heap_methods.specs.Methods.{on_thing, stays}
use Rattle.heap_methods.proofs.Unchanged.{stays_so}
use Rattle.heap_methods.proofs.call.plan_call.Goals as goal

pub returns-then-stays : goal.returns-then-stays
returns-then-stays c =
    let heap = c.args.heap.now in
    let thing = slice_get heap c.args.on.place in
    let o = on_thing c.args.which heap thing c.args.args.now in
    stays_so (stays c.args.which (guard_of heap c.args.on.place)) o thing c.unchanging.result (sym c.stays.ensures ∙ c.if-stays.true) (c.unchanging.ensures o thing c.at.ensures)
