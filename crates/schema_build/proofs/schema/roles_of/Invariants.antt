use Rattle.std.proofs.Common.{◌≡◌, take, map}
use Rattle.schema_plans.specs.Schemas as made
use Rattle.schema_build.proofs.schema.roles_of.Given as goal

abbrev pub invariant-loop-role : goal.invariant-loop-role
invariant-loop-role l = l.all ≡ map (made.role_of l.plan) (take l.role-index l.plan.roles)
