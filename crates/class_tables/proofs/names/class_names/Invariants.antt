use Rattle.std.proofs.Common.{◌≡◌, ◌++◌, drop}
use Rattle.class_tables.specs.Heads.{class_names}
use Rattle.class_tables.proofs.names.class_names.Given as goal

abbrev pub invariant-loop-unit : goal.invariant-loop-unit
invariant-loop-unit l = l.names.items ++ class_names (drop l.unit-index l.units) ≡ class_names l.units
