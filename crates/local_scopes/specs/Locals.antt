-- Locals that are declared (docs/language.md, "Locals").
use Rattle.std.specs.Prelude.{ℕ, List, Option, None, Some}
use Rattle.fault_words.specs.declared.fault.FaultWord.TheVariants.{Duplicate}
use Rattle.apex_syntax.specs.declared.word.Word.{Word}
use Rattle.local_scopes.specs.Scopes.{slot_of}
use Rattle.static_types.specs.declared.kind.ValueType.{ValueType}
use Rattle.type_names.specs.Walks.{Walk, Gives, wrong}

abbrev pub Nothing : Type 0
Nothing = Unit {0}

abbrev pub absent : Option ℕ → ℕ → Walk Nothing
absent (Some slot) at = wrong Duplicate at
absent None at = Gives tt

abbrev pub fresh : List (List ℕ × ValueType) → Word → Walk Nothing
fresh locals w = absent (slot_of locals w.name) w.span.from

abbrev pub local : Word → ValueType → List ℕ × ValueType
local w kind = (w.name, kind)
