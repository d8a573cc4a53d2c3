use Rattle.std.proofs.Common.{◌≡◌, take}
use Rattle.indexmap.specs.IndexMap.{get}
use Rattle.compile_unit.specs.declared.tables.MethodKey.{MethodKey}
use Rattle.compile_unit.specs.Keys.{key_eq, place_of}
use Rattle.compile_unit.proofs.tables.map_of.Given as goal

abbrev pub invariant-loop-i : goal.invariant-loop-i
invariant-loop-i l = (k : MethodKey) → get key_eq l.map k ≡ place_of k (take l.i l.methods)
