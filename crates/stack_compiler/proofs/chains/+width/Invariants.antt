use Rattle.std.proofs.Common.{length}
use Rattle.stack_compiler.proofs.chains.+width.Given as goal

abbrev pub decreases-width : goal.decreases-width
decreases-width l = length l.chain.now
