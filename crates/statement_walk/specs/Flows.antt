-- Values that statements read, catch and answer (docs/language.md, "Statements in code").
use Rattle.std.specs.Prelude.{ℕ, Bool, true, false, cond, List, Option, None, Some}
use Rattle.fault_words.specs.declared.fault.FaultWord.TheVariants.{WrongType}
use Rattle.apex_syntax.specs.declared.word.Word.{Word}
use Rattle.class_tables.specs.declared.head.ClassHead.{ClassHead}
use Rattle.class_tables.specs.Lines.{is_exception}
use Rattle.class_tables.specs.declared.member.ResultHead.{ResultHead}
use Rattle.class_tables.specs.declared.member.ResultHead.TheVariants as R
use Rattle.expression_walk.specs.Leaves.{is_value}
use Rattle.static_types.specs.declared.kind.ValueType.{ValueType}
use Rattle.static_types.specs.declared.kind.ValueType.TheOpen.{ValueType-F}
use Rattle.static_types.specs.declared.kind.ValueType.TheVariants as V
use Rattle.static_types.specs.declared.kind.ValueType.TheViews.{out-ValueType}
use Rattle.type_names.specs.TypeTrees.{Known, named_type}
use Rattle.type_names.specs.Walks.{Walk, Gives, wrong, onward}
use Rattle.typed_program.specs.declared.expr.Conversion.{Conversion}
use Rattle.typed_program.specs.declared.expr.Conversion.TheVariants.{Same}
use Rattle.typed_program.specs.declared.expr.TypedExpr.{TypedExpr}
use Rattle.typed_values.specs.declared.typed.Kind.{Kind}
use Rattle.typed_values.specs.declared.typed.Kind.TheVariants as K
use Rattle.typed_values.specs.declared.typed.Typed.{Typed}
use Rattle.typed_values.specs.Fits.{conversion, stored}

abbrev pub read : Typed → Walk TypedExpr
read value = cond (is_value value.role) (Gives value.tree) (wrong WrongType value.at)

-- ---- for-each

abbrev pub each_type : List ClassHead → ValueType-F ValueType → ValueType → Option Conversion
each_type heads (ValueType-F.List item) to = conversion heads (K.Is item) to
each_type heads (ValueType-F.Set p) to = conversion heads (K.Is (V.Primitive p)) to
each_type heads _ to = None

abbrev pub each_kind : List ClassHead → Kind → ValueType → Option Conversion
each_kind heads (K.Is kind) to = each_type heads (out-ValueType kind) to
each_kind heads K.Null to = Some Same
each_kind heads K.Faulty to = Some Same
each_kind heads K.Nothing to = None

abbrev pub each_as : Option Conversion → Typed → Walk (Conversion × TypedExpr)
each_as (Some how) value = Gives (how, value.tree)
each_as None value = wrong WrongType value.at

abbrev pub each : List ClassHead → ValueType → Typed → Walk (Conversion × TypedExpr)
each heads to value = each_as (each_kind heads value.kind to) value

-- ---- catch

abbrev pub is_thrown : List ClassHead → ValueType-F ValueType → Bool
is_thrown heads (ValueType-F.Class c) = is_exception heads c
is_thrown heads ValueType-F.AnyException = true
is_thrown heads (ValueType-F.Exception class) = true
is_thrown heads _ = false

abbrev pub caught : Known → List ClassHead → Word → Option Word → Walk ValueType
caught known heads class member =
    onward (named_type known class.name member class.span.from) (λ kind.
    cond (is_thrown heads (out-ValueType kind)) (Gives kind) (wrong WrongType class.span.from))

-- ---- return

abbrev pub any_kind : Kind → Typed → Walk TypedExpr
any_kind K.Nothing value = wrong WrongType value.at
any_kind kind value = Gives value.tree

abbrev pub any_value : Typed → Walk TypedExpr
any_value value = any_kind value.kind value

abbrev pub returned_value : List ClassHead → ResultHead → Typed → Walk TypedExpr
returned_value heads R.Void value = wrong WrongType value.at
returned_value heads (R.Value kind) value = stored heads value kind
returned_value heads R.Faulty value = any_value value

abbrev pub returned_nothing : ResultHead → ℕ → Walk (Option TypedExpr)
returned_nothing R.Void at = Gives None
returned_nothing due at = wrong WrongType at

abbrev pub returned : List ClassHead → ResultHead → ℕ → Option Typed → Walk (Option TypedExpr)
returned heads due at (Some value) = onward (returned_value heads due value) (λ tree. Gives (Some tree))
returned heads due at None = returned_nothing due at
