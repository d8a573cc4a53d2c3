use Rattle.trigger_things.proofs.Places.{closed_more, closed_over}
use Rattle.trigger_things.proofs.leaving.close_records.Goals as goal

pub close-preserved : goal.close-preserved
close-preserved c =
    closed_more c.args.count c.close.i c.close.place c.next_place-place.result c.close.heap c.replace.new.self _ c.close-test.true c.next_place-place.ensures c.replace.ensures c.close.invariant

pub returns : goal.returns
returns c = closed_over c.args.count c.close.i c.close.place c.close.heap _ c.close-test.false c.close.invariant
