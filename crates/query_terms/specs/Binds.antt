-- Binds of queries (docs/language.md, "Queries in code").
use Rattle.std.specs.Prelude.{ℕ, List, Option, None, Some}
use Rattle.fault_words.specs.declared.fault.FaultWord.TheVariants.{BadQuery}
use Rattle.class_tables.specs.declared.head.ClassHead.{ClassHead}
use Rattle.static_types.specs.declared.kind.Primitive.{Primitive}
use Rattle.static_types.specs.declared.kind.ValueType.{ValueType}
use Rattle.static_types.specs.declared.kind.ValueType.TheOpen.{ValueType-F}
use Rattle.static_types.specs.declared.kind.ValueType.TheVariants as V
use Rattle.static_types.specs.declared.kind.ValueType.TheViews.{out-ValueType}
use Rattle.type_names.specs.Walks.{Walk, Gives, wrong}
use Rattle.typed_program.specs.declared.expr.Conversion.{Conversion}
use Rattle.typed_program.specs.declared.expr.Conversion.TheVariants.{Same}
use Rattle.typed_program.specs.declared.expr.TypedBind.{TypedBind}
use Rattle.typed_program.specs.declared.expr.TypedBind.TheVariants.{One, Many}
use Rattle.typed_values.specs.declared.typed.Kind.{Kind}
use Rattle.typed_values.specs.declared.typed.Kind.TheVariants as K
use Rattle.typed_values.specs.declared.typed.Typed.{Typed}
use Rattle.typed_values.specs.Fits.{conversion, converted}

abbrev pub bound_by : Option Conversion → ℕ → Typed → Walk TypedBind
bound_by (Some how) at value = Gives (One (converted how value.tree))
bound_by None at value = wrong BadQuery at

abbrev pub one_bind : List ClassHead → Primitive → ℕ → Typed → Walk TypedBind
one_bind heads to at value = bound_by (conversion heads value.kind (V.Primitive to)) at value

-- ---- lists and sets, item by item

abbrev pub primitive_item : List ClassHead → Primitive → Primitive → Option Conversion
primitive_item heads from to = conversion heads (K.Is (V.Primitive from)) (V.Primitive to)

abbrev pub list_item : List ClassHead → ValueType-F ValueType → Primitive → Option Conversion
list_item heads (ValueType-F.Primitive from) to = primitive_item heads from to
list_item heads _ to = None

abbrev pub items_of : List ClassHead → ValueType-F ValueType → Primitive → Option Conversion
items_of heads (ValueType-F.List item) to = list_item heads (out-ValueType item) to
items_of heads (ValueType-F.Set from) to = primitive_item heads from to
items_of heads _ to = None

abbrev pub items_how : List ClassHead → Kind → Primitive → Option Conversion
items_how heads K.Nothing to = None
items_how heads K.Null to = Some Same
items_how heads K.Faulty to = Some Same
items_how heads (K.Is kind) to = items_of heads (out-ValueType kind) to

abbrev pub listed_by : Option Conversion → ℕ → Typed → Walk TypedBind
listed_by (Some how) at value = Gives (Many how value.tree)
listed_by None at value = wrong BadQuery at

abbrev pub list_bind : List ClassHead → Primitive → ℕ → Typed → Walk TypedBind
list_bind heads to at value = listed_by (items_how heads value.kind to) at value
