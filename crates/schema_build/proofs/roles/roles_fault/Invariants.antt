use Rattle.std.proofs.Common.{◌≡◌, drop}
use Rattle.schema_plans.specs.Plans as spec
use Rattle.schema_build.specs.Chains.{Known}
use Rattle.schema_build.proofs.roles.roles_fault.Given as goal

abbrev pub invariant-roles : goal.invariant-roles
invariant-roles l = Known l.parents l.notes.items × (spec.first_of (spec.role_fault l.plan) 0 l.plan.roles ≡ spec.first_of (spec.role_fault l.plan) l.i (drop l.i l.plan.roles))
