use Rattle.std.proofs.Common.{length}
use Rattle.stack_compiler.proofs.chains.+add_fits.Given as goal

abbrev pub decreases-add_fits : goal.decreases-add_fits
decreases-add_fits l = length l.chain.now
