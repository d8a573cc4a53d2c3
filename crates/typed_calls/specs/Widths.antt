-- The widest type of numbers (docs/language.md, "Calls").
use Rattle.std.specs.Prelude.{List, [], ◌∷◌}
use Rattle.builtin_table.specs.declared.method.Builtin.{Builtin}
use Rattle.builtin_table.specs.declared.method.Builtin.TheVariants as B
use Rattle.builtin_table.specs.declared.method.MathMethod.TheVariants.{Abs, AbsInteger}
use Rattle.typed_operations.specs.declared.sort.Sort.{Sort}
use Rattle.typed_operations.specs.declared.sort.Sort.TheVariants as S
use Rattle.typed_operations.specs.Sorts.{sort_of, type_of_number, wider}
use Rattle.typed_program.specs.declared.expr.Number.{Number}
use Rattle.typed_program.specs.declared.expr.Number.TheVariants as N
use Rattle.static_types.specs.declared.kind.Primitive.{Primitive}
use Rattle.static_types.specs.declared.kind.Primitive.TheVariants as P
use Rattle.typed_values.specs.declared.typed.Typed.{Typed}

-- `null` counts as an Integer
abbrev pub number_in : Sort → Number
number_in (S.Primitive P.Long) = N.Long
number_in (S.Primitive P.Decimal) = N.Decimal
number_in _ = N.Integer

abbrev pub widest_from : Number → List Typed → Number
widest_from most [] = most
widest_from most (a ∷ args) = widest_from (wider most (number_in (sort_of a.kind))) args

abbrev pub widest : List Typed → Primitive
widest args = type_of_number (widest_from N.Integer args)

abbrev pub absolute : Primitive → Builtin
absolute P.Integer = B.Math AbsInteger
absolute p = B.Math Abs

-- the smallest Integer is its own absolute value
abbrev pub on_numbers : Builtin → Primitive → Builtin
on_numbers (B.Math Abs) p = absolute p
on_numbers builtin p = builtin
