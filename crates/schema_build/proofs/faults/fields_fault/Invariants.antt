use Rattle.std.proofs.Common.{◌≡◌, ◌++◌, drop}
use Rattle.schema_build.specs.Lookups.{before_of}
use Rattle.schema_plans.specs.Plans as spec
use Rattle.schema_build.proofs.faults.fields_fault.Given as goal

abbrev pub invariant-loop-field : goal.invariant-loop-field
invariant-loop-field l =
    (spec.fields_fault l.lookup.plan.now l.at l.object (before_of l.fn.start) l.object.fields ≡ spec.fields_fault l.lookup.plan.now l.at l.object (before_of l.seen) (drop l.field-index l.object.fields))
    × (l.seen.children.list.items ++ spec.children_of l.lookup.plan.now (drop l.field-index l.object.fields) ≡ l.fn.start.children.list.items ++ spec.children_of l.lookup.plan.now l.object.fields)
