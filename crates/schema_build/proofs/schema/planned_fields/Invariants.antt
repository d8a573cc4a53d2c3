use Rattle.std.proofs.Common.{◌≡◌, take, map}
use Rattle.schema_plans.specs.Schemas as made
use Rattle.schema_build.proofs.schema.planned_fields.Given as goal

abbrev pub invariant-loop-field : goal.invariant-loop-field
invariant-loop-field l = l.all ≡ map (made.field_of l.lookup.plan.now l.at) (take l.field-index l.object.fields)
