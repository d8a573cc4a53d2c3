-- Arguments of methods that take values of several types (docs/language.md, "Calls").
use Rattle.std.specs.Prelude.{ℕ, ◌+◌, ◌&&◌, Bool, true, false, List, [], ◌∷◌, is_some, slice_get, Option, Some}
use Rattle.builtin_signatures.specs.declared.due.Due.{Due}
use Rattle.builtin_signatures.specs.declared.due.Due.TheVariants as D
use Rattle.builtin_signatures.specs.declared.due.Dues.{Dues}
use Rattle.builtin_signatures.specs.Dues.{each}
use Rattle.typed_operations.specs.declared.sort.Sort.{Sort}
use Rattle.typed_operations.specs.declared.sort.Sort.TheVariants as S
use Rattle.typed_operations.specs.Sorts.{sort_of, number_of}
use Rattle.static_types.specs.declared.kind.Primitive.{Primitive}
use Rattle.static_types.specs.declared.kind.Primitive.TheVariants as P
use Rattle.static_types.specs.declared.kind.ValueType.{ValueType}
use Rattle.static_types.specs.declared.kind.ValueType.TheOpen.{ValueType-F}
use Rattle.static_types.specs.declared.kind.ValueType.TheViews.{out-ValueType}
use Rattle.static_types.specs.Types.{same_primitive}
use Rattle.typed_values.specs.declared.typed.Kind.{Kind}
use Rattle.typed_values.specs.declared.typed.Kind.TheVariants as K
use Rattle.typed_values.specs.declared.typed.Typed.{Typed}

abbrev pub is_primitive : Sort → Bool
is_primitive S.Null = true
is_primitive S.Faulty = true
is_primitive (S.Primitive p) = true
is_primitive _ = false

abbrev pub is_number : Sort → Bool
is_number S.Null = true
is_number S.Faulty = true
is_number (S.Primitive p) = is_some (number_of p)
is_number _ = false

abbrev pub is_whole : Sort → Bool
is_whole S.Null = true
is_whole S.Faulty = true
is_whole (S.Primitive P.Integer) = true
is_whole (S.Primitive P.Long) = true
is_whole _ = false

abbrev pub is_record : ValueType-F ValueType → Bool
is_record (ValueType-F.Record n) = true
is_record _ = false

abbrev pub has_records : ValueType-F ValueType → Bool
has_records (ValueType-F.Record n) = true
has_records (ValueType-F.List item) = is_record (out-ValueType item)
has_records _ = false

-- a record, or a list of records; `null` could be either
abbrev pub are_records : Kind → Bool
are_records (K.Is kind) = has_records (out-ValueType kind)
are_records K.Faulty = true
are_records _ = false

abbrev pub is_type : ValueType-F ValueType → Primitive → Bool
is_type (ValueType-F.Primitive q) p = same_primitive q p
is_type _ p = false

abbrev pub holds : ValueType-F ValueType → Primitive → Bool
holds (ValueType-F.Set q) p = same_primitive q p
holds (ValueType-F.List item) p = is_type (out-ValueType item) p
holds _ p = false

-- a list or a set of items of this type
abbrev pub are_items : Kind → Primitive → Bool
are_items (K.Is kind) p = holds (out-ValueType kind) p
are_items K.Null p = true
are_items K.Faulty p = true
are_items K.Nothing p = false

abbrev pub items_of : ValueType-F ValueType → Kind → Bool
items_of (ValueType-F.Set p) kind = are_items kind p
items_of _ kind = false

abbrev pub are_items_of : Kind → Kind → Bool
are_items_of (K.Is receiver) kind = items_of (out-ValueType receiver) kind
are_items_of _ kind = false

-- what is due of one type is judged by its type
abbrev pub admits : Kind → Option Due → Kind → Bool
admits receiver (Some D.Plain) kind = is_primitive (sort_of kind)
admits receiver (Some D.Number) kind = is_number (sort_of kind)
admits receiver (Some D.Whole) kind = is_whole (sort_of kind)
admits receiver (Some D.Records) kind = are_records kind
admits receiver (Some D.Items) kind = are_items_of receiver kind
admits receiver _ kind = true

-- the arguments from the one at place `n` on
abbrev pub admits_from : Kind → List Due → ℕ → List Typed → Bool
admits_from receiver dues n [] = true
admits_from receiver dues n (a ∷ args) = admits receiver (slice_get dues n) a.kind && admits_from receiver dues (n + 1) args

abbrev pub admits_all : Kind → Dues → List Typed → Bool
admits_all receiver dues args = admits_from receiver (each dues) 0 args
