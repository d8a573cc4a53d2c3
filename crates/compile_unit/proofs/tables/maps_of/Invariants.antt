use Rattle.std.proofs.Common.{◌≡◌, ℕ, length, take, slice_get}
use Rattle.compile_unit.specs.declared.tables.MethodKey.{MethodKey}
use Rattle.compile_unit.specs.Keys.{place_among, place_in}
use Rattle.compile_unit.proofs.tables.maps_of.Given as goal

abbrev pub invariant-loop-class : goal.invariant-loop-class
invariant-loop-class l = (length l.maps.items ≡ l.class-index) × ((c : ℕ) (k : MethodKey) → place_in (slice_get l.maps.items c) k ≡ place_among (take l.class-index l.program.classes) c k)
