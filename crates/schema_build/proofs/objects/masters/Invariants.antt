use Rattle.std.proofs.Common.{◌≡◌, take, map}
use Rattle.schema_plans.specs.declared.plan.ObjectPlan.{ObjectPlan}
use Rattle.schema_build.specs.Lookups.{masters_in}
use Rattle.schema_plans.specs.Plans.{masters_among}
use Rattle.schema_build.proofs.objects.masters.Given as goal

abbrev pub invariant-loop-object : goal.invariant-loop-object
invariant-loop-object l = map masters_in l.all.items ≡ map (λ (o : ObjectPlan). masters_among l.plan o.fields) (take l.object-index l.plan.objects)
