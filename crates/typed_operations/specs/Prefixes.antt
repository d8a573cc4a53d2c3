-- Prefix operators, `++` and `--` (docs/language.md, "Operators").
use Rattle.std.specs.Prelude.{ℕ, List, Option, None, Some}
use Rattle.fault_words.specs.declared.fault.FaultWord.TheVariants.{WrongType}
use Rattle.class_tables.specs.declared.head.ClassHead.{ClassHead}
use Rattle.typed_operations.specs.declared.sort.Sort.{Sort}
use Rattle.typed_operations.specs.declared.sort.Sort.TheVariants as S
use Rattle.typed_operations.specs.Places.{writable}
use Rattle.typed_operations.specs.Sorts.{sort_of, number_of}
use Rattle.static_types.specs.declared.kind.Primitive.TheVariants as P
use Rattle.static_types.specs.declared.kind.ValueType.TheVariants as V
use Rattle.type_names.specs.Walks.{Walk, Gives, wrong, onward}
use Rattle.typed_program.specs.declared.expr.Number.{Number}
use Rattle.typed_program.specs.declared.expr.Number.TheVariants as N
use Rattle.typed_program.specs.declared.expr.StepKind.{StepKind}
use Rattle.typed_program.specs.declared.expr.TypedExpr.TheVariants.{Not, Minus, Step}
use Rattle.typed_values.specs.declared.typed.Kind.{Kind}
use Rattle.typed_values.specs.declared.typed.Kind.TheVariants.{Null, Is}
use Rattle.typed_values.specs.declared.typed.Role.TheVariants.{Plain}
use Rattle.typed_values.specs.declared.typed.Typed.{Typed}
use Rattle.typed_values.specs.Fits.{condition}

abbrev pub negated : List ClassHead → ℕ → Typed → Walk Typed
negated heads at value =
    onward (condition heads value) (λ tree. Gives (record { at = at; kind = Is (V.Primitive P.Boolean); role = Plain; tree = Not tree }))

-- `null` counts as an Integer
abbrev pub number_sort : Sort → Option Number
number_sort S.Null = Some N.Integer
number_sort S.Faulty = Some N.Integer
number_sort (S.Primitive p) = number_of p
number_sort _ = None

abbrev pub number_or : Option Number → ℕ → Walk Number
number_or (Some n) at = Gives n
number_or None at = wrong WrongType at

abbrev pub number : Typed → Walk Number
number value = number_or (number_sort (sort_of value.kind)) value.at

abbrev pub settled : Kind → Kind
settled Null = Is (V.Primitive P.Integer)
settled kind = kind

abbrev pub opposite : ℕ → Typed → Walk Typed
opposite at value =
    onward (number value) (λ n. Gives (record { at = at; kind = settled value.kind; role = Plain; tree = Minus n value.tree }))

-- that it is no number is told before that it is no variable
abbrev pub stepped : ℕ → StepKind → Typed → Walk Typed
stepped at step value =
    onward (number value) (λ n.
    onward (writable value) (λ target.
    Gives (record { at = at; kind = target.kind; role = Plain; tree = Step step n target.place })))
