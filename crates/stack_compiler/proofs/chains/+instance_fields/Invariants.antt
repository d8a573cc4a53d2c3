use Rattle.std.proofs.Common.{length}
use Rattle.stack_compiler.proofs.chains.+instance_fields.Given as goal

abbrev pub decreases-instance_fields : goal.decreases-instance_fields
decreases-instance_fields l = length l.chain.now
