-- What a statement saves (docs/language.md, "Statements in code").
use Rattle.std.specs.Prelude.{Option, None, Some}
use Rattle.fault_words.specs.declared.fault.FaultWord.TheVariants.{WrongType}
use Rattle.static_types.specs.declared.kind.ValueType.{ValueType}
use Rattle.static_types.specs.declared.kind.ValueType.TheOpen.{ValueType-F}
use Rattle.static_types.specs.declared.kind.ValueType.TheViews.{out-ValueType}
use Rattle.type_names.specs.Walks.{Walk, Gives, wrong}
use Rattle.typed_program.specs.declared.stmt.Saved.{Saved}
use Rattle.typed_program.specs.declared.stmt.Saved.TheVariants as S
use Rattle.typed_program.specs.declared.expr.TypedExpr.{TypedExpr}
use Rattle.typed_values.specs.declared.typed.Kind.{Kind}
use Rattle.typed_values.specs.declared.typed.Kind.TheVariants as K
use Rattle.typed_values.specs.declared.typed.Typed.{Typed}

abbrev pub saved_items : ValueType-F ValueType → Option Saved
saved_items (ValueType-F.Record object) = Some (S.Many object)
saved_items _ = None

abbrev pub saved_type : ValueType-F ValueType → Option Saved
saved_type (ValueType-F.Record object) = Some (S.One object)
saved_type (ValueType-F.List item) = saved_items (out-ValueType item)
saved_type _ = None

abbrev pub saved_kind : Kind → Option Saved
saved_kind (K.Is kind) = saved_type (out-ValueType kind)
saved_kind K.Null = Some S.Nothing
saved_kind K.Faulty = Some S.Nothing
saved_kind K.Nothing = None

abbrev pub saved_as : Option Saved → Typed → Walk (Saved × TypedExpr)
saved_as (Some s) value = Gives (s, value.tree)
saved_as None value = wrong WrongType value.at

-- a record, or a list of records
abbrev pub saved : Typed → Walk (Saved × TypedExpr)
saved value = saved_as (saved_kind value.kind) value
