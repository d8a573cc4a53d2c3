use Rattle.std.proofs.Common.{◌≡◌, ◌++◌, drop}
use Rattle.schema_plans.specs.Schemas as made
use Rattle.schema_build.proofs.schema.planned_objects.Given as goal

abbrev pub invariant-objects : goal.invariant-objects
invariant-objects l = l.all ++ made.numbered (made.object_of l.plan) l.i (drop l.i l.plan.objects) ≡ made.numbered (made.object_of l.plan) 0 l.plan.objects
