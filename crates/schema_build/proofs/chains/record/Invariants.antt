use Rattle.schema_build.specs.Chains.{EndsIn, Known}
use Rattle.schema_build.proofs.chains.record.Given as goal

abbrev pub invariant-steps : goal.invariant-steps
invariant-steps l = Known l.parents l.notes × EndsIn l.parents l.left l.role

abbrev pub decreases-steps : goal.decreases-steps
decreases-steps l = l.left
