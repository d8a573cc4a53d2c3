use Rattle.std.proofs.Common.{◌≡◌, ◌++◌, drop}
use Rattle.schema_plans.specs.Plans as spec
use Rattle.schema_build.proofs.objects.masters_among.Given as goal

abbrev pub invariant-loop-field : goal.invariant-loop-field
invariant-loop-field l = l.all.list.items ++ spec.masters_among l.plan (drop l.field-index l.fields) ≡ spec.masters_among l.plan l.fields
