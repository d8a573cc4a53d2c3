-- The types that arguments have to fit (docs/language.md, "Calls").
use Rattle.std.specs.Prelude.{Bool, true, false, cond, List, map, Option, None, Some}
use Rattle.typed_calls.specs.Widths.{widest}
use Rattle.builtin_signatures.specs.declared.due.Due.{Due}
use Rattle.builtin_signatures.specs.declared.due.Due.TheVariants as D
use Rattle.builtin_signatures.specs.Dues.{each, dues_of}
use Rattle.builtin_table.specs.declared.method.Builtin.{Builtin}
use Rattle.builtin_table.specs.declared.method.Builtin.TheVariants.{Math}
use Rattle.static_types.specs.declared.kind.PlatformType.TheVariants.{Savepoint}
use Rattle.static_types.specs.declared.kind.Primitive.{Primitive}
use Rattle.static_types.specs.declared.kind.Primitive.TheVariants as P
use Rattle.static_types.specs.declared.kind.ValueType.{ValueType}
use Rattle.static_types.specs.declared.kind.ValueType.TheOpen.{ValueType-F}
use Rattle.static_types.specs.declared.kind.ValueType.TheVariants as V
use Rattle.static_types.specs.declared.kind.ValueType.TheViews.{out-ValueType}
use Rattle.typed_values.specs.declared.typed.Kind.{Kind}
use Rattle.typed_values.specs.declared.typed.Kind.TheVariants as K
use Rattle.typed_values.specs.declared.typed.Typed.{Typed}

abbrev pub item_type : ValueType-F ValueType → Option ValueType
item_type (ValueType-F.List item) = Some item
item_type (ValueType-F.Set p) = Some (V.Primitive p)
item_type _ = None

abbrev pub key_type : ValueType-F ValueType → Option Primitive
key_type (ValueType-F.Map key value) = Some key
key_type _ = None

abbrev pub value_type : ValueType-F ValueType → Option ValueType
value_type (ValueType-F.Map key value) = Some value
value_type _ = None

abbrev pub primitive : Option Primitive → Option ValueType
primitive (Some p) = Some (V.Primitive p)
primitive None = None

abbrev pub part_of : ValueType → Due → Option ValueType
part_of kind D.Item = item_type (out-ValueType kind)
part_of kind D.Key = primitive (key_type (out-ValueType kind))
part_of kind D.Value = value_type (out-ValueType kind)
part_of kind D.Same = Some kind
part_of kind _ = None

abbrev pub of_receiver : Kind → Due → Option ValueType
of_receiver (K.Is kind) due = part_of kind due
of_receiver _ due = None

abbrev pub texts : ValueType
texts = V.List (V.Primitive P.String)

-- what is due of several types has none
abbrev pub wanted : Kind → Due → Option ValueType
wanted receiver (D.Is p) = Some (V.Primitive p)
wanted receiver D.Texts = Some texts
wanted receiver D.Savepoint = Some (V.Platform Savepoint)
wanted receiver due = of_receiver receiver due

abbrev pub wanted_at : Kind → Option Due → Option ValueType
wanted_at receiver (Some due) = wanted receiver due
wanted_at receiver None = None

-- numbers become the widest of them
abbrev pub numbers : List Typed → List (Option ValueType)
numbers args = map (λ (a : Typed). Some (V.Primitive (widest args))) args

abbrev pub is_math : Builtin → Bool
is_math (Math m) = true
is_math _ = false

abbrev pub wanted_by : Kind → Builtin → List Typed → List (Option ValueType)
wanted_by receiver builtin args = cond (is_math builtin) (numbers args) (map (wanted receiver) (each (dues_of builtin)))
