-- Methods of instances by their names and numbers of parameters.
use Rattle.std.specs.Prelude.{ℕ, suc, ◌&&◌, not, Bool, cond, List, [], ◌∷◌, slice_get, Option, None, Some, option_map}
use Rattle.indexmap.specs.IndexMap.{IndexMap, get}
use Rattle.apex_meaning.specs.Classes.{methods_of, nearest}
use Rattle.stack_code.specs.Images.{method_at}
use Rattle.stack_code.specs.declared.image.MethodAt.{MethodAt}
use Rattle.typed_program.specs.declared.program.Program.{Program}
use Rattle.typed_program.specs.declared.unit.TypedClass.{TypedClass}
use Rattle.typed_program.specs.declared.unit.TypedMethod.{TypedMethod}
use Rattle.compile_unit.specs.declared.tables.MethodKey.{MethodKey}
use Rattle.compile_unit.specs.contracts.tables.MethodKeyPartialEq.TheImpl.{ghosts}

abbrev pub key_eq : MethodKey → MethodKey → Bool
key_eq = ghosts.eq

abbrev pub key_of : TypedMethod → MethodKey
key_of m = record { name = m.name; params = m.params }

-- whether a key finds a method
abbrev pub is_found : MethodKey → TypedMethod → Bool
is_found k m = not m.is_static && key_eq (key_of m) k

-- where the first one stands that a key finds
abbrev pub place_from : ℕ → MethodKey → List TypedMethod → Option ℕ
place_from n k [] = None
place_from n k (m ∷ ms) = cond (is_found k m) (Some n) (place_from (suc n) k ms)

abbrev pub place_of : MethodKey → List TypedMethod → Option ℕ
place_of k ms = place_from 0 k ms

-- likewise among the methods of the class with this number
abbrev pub place_among : List TypedClass → ℕ → MethodKey → Option ℕ
place_among classes c k = place_of k (methods_of (slice_get classes c))

-- and by its map
abbrev pub place_in : {S : Type 0} → Option (IndexMap MethodKey ℕ S) → MethodKey → Option ℕ
place_in None k = None
place_in (Some m) k = get key_eq m k

-- what is found already is kept
abbrev pub kept : Option ℕ → Bool → ℕ → Option ℕ
kept (Some n) b later = Some n
kept None b later = cond b (Some later) None

abbrev pub at_or : ℕ → Option ℕ → Option MethodAt → Option MethodAt
at_or c (Some n) later = Some (method_at (c, n))
at_or c None later = later

-- the first class that has it, and its place there
abbrev pub nearest_by : Program → MethodKey → List ℕ → Option MethodAt
nearest_by program k [] = None
nearest_by program k (c ∷ cs) = at_or c (place_among program.classes c k) (nearest_by program k cs)

abbrev pub target_in : Program → List ℕ → TypedMethod → Option MethodAt
target_in program cs m = option_map method_at (nearest program m cs)
