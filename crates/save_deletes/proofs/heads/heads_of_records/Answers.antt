use Rattle.save_deletes.specs.Heads.{ids_in}
use Rattle.save_deletes.proofs.Sets.{record_next}
use Rattle.save_deletes.proofs.heads.heads_of_records.Goals as goal

pub loop-one-preserved : goal.loop-one-preserved
loop-one-preserved c = λ object.
    record_next object c.loop-one.one-index c.args.records.now c.one-item.result (ids_in c.loop-one.sets object) (ids_in c.add_record.new.sets object) _ c.loop-one-test.true c.one-item.is (c.loop-one.invariant object) (c.in_ok-add_record.ensures object)
