use Rattle.std.proofs.Common.{◌≡◌, take}
use Rattle.indexmap.specs.IndexMap.{get}
use Rattle.class_tables.specs.declared.key.MethodKey.{MethodKey}
use Rattle.class_tables.specs.Keys.{key_eq, place_of_key}
use Rattle.class_tables.proofs.key.map_of.Given as goal

abbrev pub invariant-loop-i : goal.invariant-loop-i
invariant-loop-i l = (k : MethodKey) → get key_eq l.map k ≡ place_of_key (take l.i l.keys) k
