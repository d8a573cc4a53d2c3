use Rattle.std.proofs.Common.{◌≡◌, take, map}
use Rattle.schema_plans.specs.Schemas as made
use Rattle.schema_build.proofs.schema.users_of.Given as goal

abbrev pub invariant-loop-user : goal.invariant-loop-user
invariant-loop-user l = l.all ≡ map (made.user_of l.plan) (take l.user-index l.plan.users)
