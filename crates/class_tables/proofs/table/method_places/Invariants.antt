use Rattle.std.proofs.Common.{◌≡◌, take, map}
use Rattle.class_tables.specs.Lookups.{method_key}
use Rattle.class_tables.proofs.table.method_places.Given as goal

abbrev pub invariant-loop-method : goal.invariant-loop-method
invariant-loop-method l = l.keys.items ≡ map method_key (take l.method-index l.methods)
