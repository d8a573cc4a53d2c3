use Rattle.trigger_things.proofs.More.{more_things, more_listed, more_by_id}
use Rattle.trigger_things.proofs.records.make_records.Goals as goal

pub loop-row-preserved : goal.loop-row-preserved
loop-row-preserved c = record {
  things = more_things c.args.guard.now c.in-Some.row c.next.new.self.rest.items _ _ _ _ c.in-Some.ensures.steps.0 c.in_ok-make_record.ensures.things c.loop-row.invariant.things;
  list = more_listed c.args.guard.now c.in-Some.row c.next.new.self.rest.items _ c.loop-row.heap c.make_record.new.heap _ _ _ c.in-Some.ensures.steps.0 c.in_ok-make_record.ensures.things c.in_ok-make_record.ensures.list c.loop-row.invariant.list;
  by_id = more_by_id c.args.guard.now c.in-Some.row c.next.new.self.rest.items _ c.loop-row.heap c.make_record.new.heap _ _ _ c.in-Some.ensures.steps.0 c.in_ok-make_record.ensures.things c.in_ok-make_record.ensures.by_id c.loop-row.invariant.by_id;
}
