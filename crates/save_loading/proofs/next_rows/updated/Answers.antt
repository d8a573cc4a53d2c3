use Rattle.save_loading.proofs.Nexts.{none_left, records_all}
use Rattle.save_loading.proofs.next_rows.updated.Goals as goal

pub returns : goal.returns
returns c =
    records_all c.args.by c.args.object.now c.loop-record.place c.args.rows.now c.loop-record.next c.loop-record.record-iterator.rest.items _ (none_left c.loop-record.record-iterator.rest.items c.loop-record.record-iterator.rest.len c.loop-record.record-iterator.rest.ok.0 c.in-None.ensures.steps.0) c.loop-record.invariant.0
