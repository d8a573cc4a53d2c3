use Rattle.std.proofs.Common.{◌≡◌, drop}
use Rattle.schema_plans.specs.Plans as spec
use Rattle.schema_build.proofs.faults.all_rules_fault.Given as goal

abbrev pub invariant-objects : goal.invariant-objects
invariant-objects l = spec.first_of spec.rules_fault 0 l.plan.objects ≡ spec.first_of spec.rules_fault l.i (drop l.i l.plan.objects)
