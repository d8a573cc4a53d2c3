use Rattle.std.proofs.Common.{◌≡◌, take, map}
use Rattle.class_tables.specs.Heads.{unit_name}
use Rattle.class_tables.proofs.names.unit_names.Given as goal

abbrev pub invariant-loop-unit : goal.invariant-loop-unit
invariant-loop-unit l = l.names.items ≡ map unit_name (take l.unit-index l.units)
