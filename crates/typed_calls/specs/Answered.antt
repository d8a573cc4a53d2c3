-- What built-in methods answer to arguments (docs/language.md, "Calls").
use Rattle.std.specs.Prelude.{List, [], ◌∷◌, Option, None, Some}
use Rattle.typed_calls.specs.Wants.{item_type, key_type, value_type}
use Rattle.typed_calls.specs.Widths.{widest}
use Rattle.builtin_signatures.specs.Answers.{answer_of}
use Rattle.builtin_signatures.specs.declared.answer.Answer.{Answer}
use Rattle.builtin_signatures.specs.declared.answer.Answer.TheVariants as A
use Rattle.builtin_table.specs.declared.method.Builtin.{Builtin}
use Rattle.static_types.specs.declared.kind.PlatformType.{PlatformType}
use Rattle.static_types.specs.declared.kind.PlatformType.TheVariants.{Savepoint, Error}
use Rattle.static_types.specs.declared.kind.Primitive.{Primitive}
use Rattle.static_types.specs.declared.kind.ValueType.{ValueType}
use Rattle.static_types.specs.declared.kind.ValueType.TheOpen.{ValueType-F}
use Rattle.static_types.specs.declared.kind.ValueType.TheVariants as V
use Rattle.static_types.specs.declared.kind.ValueType.TheViews.{out-ValueType}
use Rattle.typed_values.specs.declared.typed.Kind.{Kind}
use Rattle.typed_values.specs.declared.typed.Kind.TheVariants as K
use Rattle.typed_values.specs.declared.typed.Typed.{Typed}

abbrev pub known : Option ValueType → Kind
known (Some kind) = K.Is kind
known None = K.Nothing

abbrev pub listed : Option ValueType → Kind
listed (Some kind) = K.Is (V.List kind)
listed None = K.Nothing

abbrev pub set_of : Option Primitive → Kind
set_of (Some key) = K.Is (V.Set key)
set_of None = K.Nothing

abbrev pub keys : ValueType-F ValueType → Kind
keys kind = set_of (key_type kind)

abbrev pub of_type : ValueType → Answer → Kind
of_type kind A.Item = known (item_type (out-ValueType kind))
of_type kind A.Value = known (value_type (out-ValueType kind))
of_type kind A.Same = K.Is kind
of_type kind A.Keys = keys (out-ValueType kind)
of_type kind A.Values = listed (value_type (out-ValueType kind))
of_type kind _ = K.Nothing

abbrev pub of_receiver : Kind → Answer → Kind
of_receiver (K.Is kind) answer = of_type kind answer
of_receiver _ answer = K.Nothing

-- one result for a record, and a list of them for a list
abbrev pub results_for : ValueType-F ValueType → PlatformType → Kind
results_for (ValueType-F.List item) one = listed (Some (V.Platform one))
results_for _ one = K.Is (V.Platform one)

abbrev pub results_of : Kind → PlatformType → Kind
results_of (K.Is kind) one = results_for (out-ValueType kind) one
results_of _ one = K.Faulty

abbrev pub results : List Typed → PlatformType → Kind
results [] one = K.Faulty
results (a ∷ args) one = results_of a.kind one

abbrev pub answer_to : Kind → List Typed → Answer → Kind
answer_to receiver args A.Nothing = K.Nothing
answer_to receiver args (A.Is p) = K.Is (V.Primitive p)
answer_to receiver args A.Widest = K.Is (V.Primitive (widest args))
answer_to receiver args A.Errors = listed (Some (V.Platform Error))
answer_to receiver args (A.Results one) = results args one
answer_to receiver args A.Savepoint = K.Is (V.Platform Savepoint)
answer_to receiver args answer = of_receiver receiver answer

abbrev pub answered : Kind → Builtin → List Typed → Kind
answered receiver builtin args = answer_to receiver args (answer_of builtin)
