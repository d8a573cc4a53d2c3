use Rattle.std.proofs.Common.{◌≡◌, take, map}
use Rattle.class_tables.specs.Lookups.{constructor_key}
use Rattle.class_tables.proofs.table.constructor_places.Given as goal

abbrev pub invariant-loop-constructor : goal.invariant-loop-constructor
invariant-loop-constructor l = l.keys.items ≡ map constructor_key (take l.constructor-index l.constructors)
