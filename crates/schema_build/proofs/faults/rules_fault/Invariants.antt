use Rattle.std.proofs.Common.{◌≡◌, drop}
use Rattle.schema_plans.specs.Plans as spec
use Rattle.schema_build.proofs.faults.rules_fault.Given as goal

abbrev pub invariant-rules : goal.invariant-rules
invariant-rules l = spec.first_of (spec.rule_fault l.object) 0 l.object.rules ≡ spec.first_of (spec.rule_fault l.object) l.i (drop l.i l.object.rules)
