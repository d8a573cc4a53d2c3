use Rattle.std.proofs.Common.{◌+◌, ◌*◌}
use Rattle.stack_compiler.proofs.chains.+add_chain.Given as goal

abbrev pub decreases-add_chain : goal.decreases-add_chain
decreases-add_chain l = 2 * l.most

abbrev pub decreases-add_linked : goal.decreases-add_linked
decreases-add_linked l = 2 * l.most + 1
