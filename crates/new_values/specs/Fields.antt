-- Fields of new records (docs/language.md, "Elements and items").
use Rattle.std.specs.Prelude.{ℕ, eqb, Bool, cond, List, Option, None, Some}
use Rattle.std.specs.List.{list_any}
use Rattle.fault_words.specs.declared.fault.FaultWord.TheVariants.{UnknownName, Duplicate, WrongType, NotWritable}
use Rattle.apex_schema.specs.declared.schema.Field.{Field}
use Rattle.apex_schema.specs.declared.schema.Object.{Object}
use Rattle.apex_syntax.specs.declared.word.Word.{Word}
use Rattle.class_tables.specs.declared.head.ClassHead.{ClassHead}
use Rattle.name_meanings.specs.Records.{cell_type, field_in, may_set_cell}
use Rattle.new_values.specs.declared.field.RecordField.{RecordField}
use Rattle.record_words.specs.declared.entries.RecordWord.{RecordWord}
use Rattle.record_words.specs.declared.entries.RecordWord.TheVariants as W
use Rattle.record_words.specs.Words.{word_of}
use Rattle.static_types.specs.declared.kind.ValueType.{ValueType}
use Rattle.static_types.specs.declared.kind.ValueType.TheOpen.{ValueType-F}
use Rattle.static_types.specs.declared.kind.ValueType.TheVariants as V
use Rattle.type_names.specs.Walks.{Walk, Gives, wrong}
use Rattle.typed_program.specs.declared.expr.TypedExpr.{TypedExpr}
use Rattle.typed_program.specs.declared.expr.TypedExpr.TheVariants.{New}
use Rattle.typed_program.specs.declared.expr.TypedNew.TheVariants as T
use Rattle.typed_program.specs.declared.expr.TypedPair.{TypedPair}
use Rattle.typed_values.specs.declared.typed.Kind.TheVariants.{Is}
use Rattle.typed_values.specs.declared.typed.Typed.{Typed}
use Rattle.typed_values.specs.Fits.{plain, fitted}

abbrev pub record_of : ValueType-F ValueType → ℕ → Walk ℕ
record_of (ValueType-F.Record object) at = Gives object
record_of _ at = wrong WrongType at

abbrev pub pair : ℕ → TypedExpr → TypedPair
pair field value = record { field = field; value = value }

-- whether a field is among these
abbrev pub has : List TypedPair → ℕ → Bool
has pairs n = list_any (λ p. eqb p.field n) pairs

-- a field is given once, and roll-ups are computed
abbrev pub writable_as : List TypedPair → ℕ → Field → ℕ → Walk RecordField
writable_as pairs n f at =
    cond (has pairs n) (wrong Duplicate at)
    (cond (may_set_cell f.kind) (Gives (record { field = n; kind = cell_type f.kind })) (wrong NotWritable at))

abbrev pub writable : List TypedPair → ℕ → Option Field → ℕ → Walk RecordField
writable pairs n (Some f) at = writable_as pairs n f at
writable pairs n None at = wrong UnknownName at

-- relations and children can't be given
abbrev pub given_as : List Object → ℕ → List TypedPair → Option RecordWord → ℕ → Walk RecordField
given_as objects object pairs (Some (W.Field n)) at = writable pairs n (field_in objects object n) at
given_as objects object pairs (Some (W.Parent n)) at = wrong NotWritable at
given_as objects object pairs (Some (W.Children child n)) at = wrong NotWritable at
given_as objects object pairs None at = wrong UnknownName at

abbrev pub field_named : List Object → ℕ → List TypedPair → Word → Walk RecordField
field_named objects object pairs w = given_as objects object pairs (word_of objects (record { object = object; name = w.name })) w.span.from

abbrev pub with_value : List ClassHead → RecordField → Typed → Walk TypedExpr
with_value heads field value = fitted heads value (V.Primitive field.kind)

abbrev pub record_with : ℕ → ℕ → List TypedPair → Typed
record_with at object pairs = plain at (Is (V.Record object)) (New (T.Record object pairs))
