use Rattle.std.proofs.Common.{◌≡◌, drop}
use Rattle.schema_plans.specs.Plans as spec
use Rattle.schema_build.proofs.roles.users_fault.Given as goal

abbrev pub invariant-users : goal.invariant-users
invariant-users l = spec.first_of (spec.user_fault l.plan) 0 l.plan.users ≡ spec.first_of (spec.user_fault l.plan) l.i (drop l.i l.plan.users)
