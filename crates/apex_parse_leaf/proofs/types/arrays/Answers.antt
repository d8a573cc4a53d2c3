use Rattle.apex_parse_leaf.proofs.Pairs.{counted_more}
use Rattle.apex_parse_leaf.proofs.types.arrays.Goals as goal

pub pairs-preserved : goal.pairs-preserved
pairs-preserved c = counted_more c.pairs.invariant c.pairs-test.ensures c.in_ok-after.ensures
