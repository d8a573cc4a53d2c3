use Rattle.std.proofs.Common.{◌≡◌, take, map}
use Rattle.class_tables.specs.Lookups.{name_of_kind}
use Rattle.class_tables.proofs.table.field_places.Given as goal

abbrev pub invariant-loop-field : goal.invariant-loop-field
invariant-loop-field l = l.names.items ≡ map (name_of_kind l.is_static) (take l.field-index l.fields)
