use Rattle.std.proofs.Common.{◌≡◌, take, map}
use Rattle.schema_plans.specs.declared.plan.RolePlan.{RolePlan}
use Rattle.schema_plans.specs.Plans.{named, role_names}
use Rattle.schema_build.proofs.roles.parents.Given as goal

abbrev pub invariant-loop-role : goal.invariant-loop-role
invariant-loop-role l = l.all.items ≡ map (λ (r : RolePlan). named (role_names l.plan) r.parent) (take l.role-index l.plan.roles)
