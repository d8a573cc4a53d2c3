use Rattle.program_things.proofs.Lists.{pair_more}
use Rattle.program_things.proofs.collections.take_pairs.Goals as goal

pub pairs-preserved : goal.pairs-preserved
pairs-preserved c =
    pair_more c.args.count c.pairs.i c.take_pair.result.0 c.take_pair.result.1 c.pairs.stack c.take_pair.ensures.0 c.take_pair.new.stack c.pairs.pairs.items c.push.new.self.items _ c.pairs-test.true c.take_pair.ensures.1 c.take_pair.ensures.2 c.in_ok-push.ensures.items c.pairs.invariant
