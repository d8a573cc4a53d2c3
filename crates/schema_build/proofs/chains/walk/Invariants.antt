use Rattle.schema_build.specs.Chains.{Path}
use Rattle.schema_build.proofs.chains.walk.Given as goal

abbrev pub invariant-steps : goal.invariant-steps
invariant-steps l = Path l.parents l.k l.from l.role
