use Rattle.program_things.proofs.Lists.{taken_more}
use Rattle.program_things.proofs.operands.take_values.Goals as goal

pub values-preserved : goal.values-preserved
values-preserved c =
    taken_more c.args.count c.values.i c.take.result c.values.stack c.take.new.stack c.values.values.items c.push.new.self.items _ c.values-test.true c.take.ensures c.in_ok-push.ensures.items c.values.invariant
