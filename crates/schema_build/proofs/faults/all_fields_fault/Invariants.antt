use Rattle.std.proofs.Common.{◌≡◌, [], drop}
use Rattle.schema_plans.specs.Plans as spec
use Rattle.schema_build.proofs.faults.all_fields_fault.Given as goal

abbrev pub invariant-objects : goal.invariant-objects
invariant-objects l = spec.all_fields_fault l.plan 0 [] l.plan.objects ≡ spec.all_fields_fault l.plan l.i l.children.list.items (drop l.i l.plan.objects)
