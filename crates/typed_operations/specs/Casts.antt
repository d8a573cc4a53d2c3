-- Casts (docs/language.md, "Operators").
use Rattle.std.specs.Prelude.{ℕ, cond, List, Option, None, Some}
use Rattle.fault_words.specs.declared.fault.FaultWord.TheVariants.{WrongType}
use Rattle.class_tables.specs.declared.head.ClassHead.{ClassHead}
use Rattle.class_tables.specs.Lines.{fits}
use Rattle.static_types.specs.declared.kind.ValueType.{ValueType}
use Rattle.static_types.specs.declared.kind.ValueType.TheOpen.{ValueType-F}
use Rattle.static_types.specs.declared.kind.ValueType.TheViews.{out-ValueType}
use Rattle.type_names.specs.Walks.{Walk, Gives, wrong, onward}
use Rattle.typed_program.specs.declared.expr.Conversion.{Conversion}
use Rattle.typed_program.specs.declared.expr.TypedExpr.{TypedExpr}
use Rattle.typed_program.specs.declared.expr.TypedExpr.TheVariants.{Cast, CastException}
use Rattle.typed_values.specs.declared.typed.Kind.{Kind}
use Rattle.typed_values.specs.declared.typed.Kind.TheVariants.{Is}
use Rattle.typed_values.specs.declared.typed.Role.TheVariants.{Plain}
use Rattle.typed_values.specs.declared.typed.Typed.{Typed}
use Rattle.typed_values.specs.Fits.{conversion, converted}
use Rattle.typed_operations.specs.declared.cast.Casting.{Casting}
use Rattle.typed_operations.specs.declared.cast.Casting.TheVariants as C
use Rattle.typed_operations.specs.declared.cast.Down.{Down}
use Rattle.typed_operations.specs.declared.cast.Down.TheVariants.{Class, Exception}

-- only instances of classes are cast down
abbrev pub down_type : ValueType-F ValueType → Option Down
down_type (ValueType-F.Class c) = Some (Class c)
down_type (ValueType-F.Exception class) = Some (Exception class)
down_type _ = None

-- to a class that fits the type that they have
abbrev pub down_to : List ClassHead → Kind → ValueType → Option Down
down_to heads (Is from) to = cond (fits heads to from) (down_type (out-ValueType to)) None
down_to heads _ to = None

abbrev pub down_or : Option Down → ℕ → Walk Casting
down_or (Some to) at = Gives (C.Down to)
down_or None at = wrong WrongType at

abbrev pub cast_by : Option Conversion → Option Down → ℕ → Walk Casting
cast_by (Some how) down at = Gives (C.By how)
cast_by None down at = down_or down at

abbrev pub cast_how : List ClassHead → Typed → ValueType → Walk Casting
cast_how heads value to = cast_by (conversion heads value.kind to) (down_to heads value.kind to) value.at

abbrev pub cast_tree : Casting → TypedExpr → TypedExpr
cast_tree (C.By how) tree = converted how tree
cast_tree (C.Down (Class c)) tree = Cast c tree
cast_tree (C.Down (Exception class)) tree = CastException class tree

abbrev pub cast_value : ℕ → ValueType → Casting → TypedExpr → Typed
cast_value at to how tree = record { at = at; kind = Is to; role = Plain; tree = cast_tree how tree }

abbrev pub cast_to : List ClassHead → ℕ → ValueType → Typed → Walk Typed
cast_to heads at to value = onward (cast_how heads value to) (λ how. Gives (cast_value at to how value.tree))
