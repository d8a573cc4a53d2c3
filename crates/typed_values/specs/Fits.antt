-- What fits where (docs/language.md, "Values and their types").
use Rattle.std.specs.Prelude.{ℕ, eqb, Bool, true, false, cond, List, Option, None, Some}
use Rattle.fault_words.specs.declared.fault.FaultWord.TheVariants.{WrongType}
use Rattle.class_tables.specs.declared.head.ClassHead.{ClassHead}
use Rattle.class_tables.specs.Lines.{fits}
use Rattle.static_types.specs.declared.kind.Primitive.{Primitive}
use Rattle.static_types.specs.declared.kind.Primitive.TheVariants as P
use Rattle.static_types.specs.declared.kind.ValueType.{ValueType}
use Rattle.static_types.specs.declared.kind.ValueType.TheOpen.{ValueType-F}
use Rattle.static_types.specs.declared.kind.ValueType.TheVariants as V
use Rattle.static_types.specs.declared.kind.ValueType.TheViews.{out-ValueType}
use Rattle.static_types.specs.Types.{same_primitive}
use Rattle.type_names.specs.Walks.{Walk, Gives, wrong, onward}
use Rattle.typed_program.specs.declared.expr.Conversion.{Conversion}
use Rattle.typed_program.specs.declared.expr.Conversion.TheVariants.{Same, ToLong, ToDecimal, ToId, ToText, ToRecord}
use Rattle.typed_program.specs.declared.expr.TypedExpr.{TypedExpr}
use Rattle.typed_program.specs.declared.expr.TypedExpr.TheVariants.{Convert}
use Rattle.typed_values.specs.declared.typed.Kind.{Kind}
use Rattle.typed_values.specs.declared.typed.Kind.TheVariants.{Nothing, Null, Faulty, Is}
use Rattle.typed_values.specs.declared.typed.Role.{Role}
use Rattle.typed_values.specs.declared.typed.Role.TheVariants.{Plain, Query}
use Rattle.typed_values.specs.declared.typed.Typed.{Typed}

abbrev pub typed : ℕ → Kind → Role → TypedExpr → Typed
typed at kind role tree = record { at = at; kind = kind; role = role; tree = tree }

abbrev pub plain : ℕ → Kind → TypedExpr → Typed
plain at kind tree = typed at kind Plain tree

-- what a primitive becomes where one of this type is due
abbrev pub becomes : Primitive → Conversion
becomes P.Long = ToLong
becomes P.Decimal = ToDecimal
becomes P.Id = ToId
becomes P.String = ToText
becomes _ = Same

abbrev pub between : Primitive → Primitive → Conversion
between p q = cond (same_primitive p q) Same (becomes q)

-- nothing but primitives is converted
abbrev pub form_how : ValueType-F ValueType → ValueType-F ValueType → Conversion
form_how (ValueType-F.Primitive p) (ValueType-F.Primitive q) = between p q
form_how _ _ = Same

abbrev pub how : ValueType → ValueType → Conversion
how from to = form_how (out-ValueType from) (out-ValueType to)

abbrev pub type_conversion : List ClassHead → ValueType → ValueType → Option Conversion
type_conversion heads from to = cond (fits heads from to) (Some (how from to)) None

-- what is no value fits nowhere; `null` fits everywhere, and so does what is at fault elsewhere
abbrev pub conversion : List ClassHead → Kind → ValueType → Option Conversion
conversion heads Nothing to = None
conversion heads Null to = Some Same
conversion heads Faulty to = Some Same
conversion heads (Is from) to = type_conversion heads from to

-- whether a value fits
abbrev pub takes : List ClassHead → Kind → ValueType → Bool
takes heads Nothing to = false
takes heads Null to = true
takes heads Faulty to = true
takes heads (Is from) to = fits heads from to

abbrev pub converted : Conversion → TypedExpr → TypedExpr
converted Same tree = tree
converted how tree = Convert how tree

abbrev pub how_or : Option Conversion → ℕ → Walk Conversion
how_or (Some how) at = Gives how
how_or None at = wrong WrongType at

abbrev pub fitting : List ClassHead → Typed → ValueType → Walk Conversion
fitting heads value to = how_or (conversion heads value.kind to) value.at

abbrev pub fitted : List ClassHead → Typed → ValueType → Walk TypedExpr
fitted heads value to = onward (fitting heads value to) (λ how. Gives (converted how value.tree))

abbrev pub condition : List ClassHead → Typed → Walk TypedExpr
condition heads value = fitted heads value (V.Primitive P.Boolean)

-- ---- a query itself stands for its only record where that is stored

abbrev pub is_record : ValueType-F ValueType → ℕ → Bool
is_record (ValueType-F.Record n) object = eqb n object
is_record _ object = false

abbrev pub lists_records : ValueType-F ValueType → ℕ → Bool
lists_records (ValueType-F.List item) object = is_record (out-ValueType item) object
lists_records _ object = false

abbrev pub query_gives : Role → Kind → ℕ → Bool
query_gives Query (Is kind) object = lists_records (out-ValueType kind) object
query_gives _ _ object = false

abbrev pub gives_record : Typed → ValueType-F ValueType → Bool
gives_record value (ValueType-F.Record object) = query_gives value.role value.kind object
gives_record value _ = false

abbrev pub stored : List ClassHead → Typed → ValueType → Walk TypedExpr
stored heads value to = cond (gives_record value (out-ValueType to)) (Gives (converted ToRecord value.tree)) (fitted heads value to)
