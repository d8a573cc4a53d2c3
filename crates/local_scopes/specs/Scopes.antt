-- Locals in scope, the first declared first (docs/language.md, "Locals").
use Rattle.std.specs.Prelude.{ℕ, List, bytes_eq, position, option_map, slice_get, Option}
use Rattle.std.specs.Map.{keys_of}
use Rattle.static_types.specs.declared.kind.ValueType.{ValueType}

-- a slot is a place among the locals
abbrev pub slot_of : List (List ℕ × ValueType) → List ℕ → Option ℕ
slot_of locals name = position (bytes_eq name) (keys_of locals)

abbrev pub kind_of_local : (List ℕ × ValueType) → ValueType
kind_of_local local = local.1

abbrev pub kind_in : List (List ℕ × ValueType) → ℕ → Option ValueType
kind_in locals slot = option_map kind_of_local (slice_get locals slot)
