-- When two methods have the same types (docs/language.md, "Members"); a type that has a fault is equal to any.
use Rattle.std.specs.Prelude.{◌&&◌, Bool, true, false, List, [], ◌∷◌, Option, Some}
use Rattle.static_types.specs.declared.kind.ValueType.{ValueType}
use Rattle.static_types.specs.Types.{same}
use Rattle.class_tables.specs.declared.member.MethodHead.{MethodHead}
use Rattle.class_tables.specs.declared.member.ResultHead.{ResultHead}
use Rattle.class_tables.specs.declared.member.ResultHead.TheVariants.{Void, Value, Faulty}

abbrev pub same_param : Option ValueType → Option ValueType → Bool
same_param (Some a) (Some b) = same a b
same_param _ _ = true

abbrev pub same_params : List (Option ValueType) → List (Option ValueType) → Bool
same_params [] [] = true
same_params (a ∷ rest) (b ∷ more) = same_param a b && same_params rest more
same_params _ _ = false

abbrev pub same_result : ResultHead → ResultHead → Bool
same_result Faulty b = true
same_result a Faulty = true
same_result Void Void = true
same_result (Value a) (Value b) = same a b
same_result _ _ = false

abbrev pub same_signature : MethodHead → MethodHead → Bool
same_signature a b = same_result a.result b.result && same_params a.params b.params
