use Rattle.std.proofs.Common.{◌≡◌, ◌++◌, drop, map}
use Rattle.type_names.specs.TypeTrees.{known}
use Rattle.class_tables.specs.Members.{members_among}
use Rattle.class_tables.specs.Tables.{members_of}
use Rattle.class_tables.proofs.tables.tables_of.Given as goal

abbrev pub invariant-loop-unit : goal.invariant-loop-unit
invariant-loop-unit l = map members_of l.tables ++ members_among (known l.names) (drop l.unit-index l.units) ≡ members_among (known l.names) l.units
