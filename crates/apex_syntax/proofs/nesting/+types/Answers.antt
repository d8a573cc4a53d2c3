use Rattle.apex_syntax.proofs.DepthSteps.{type_is}
use Rattle.apex_syntax.proofs.nesting.+types.Goals as goal

pub type_depth-returns : goal.type_depth-returns
type_depth-returns t c = type_is c.args.tree.now c.as_slice.result.now c.max.result c.type_args.result c.arrays.result c.max.ensures c.type_args.ensures c.as_slice.ensures c.arrays.ensures
