-- Collections of what is in another one (docs/language.md, "New values").
use Rattle.std.specs.Prelude.{Bool, false, cond, List, Option, None, Some}
use Rattle.class_tables.specs.declared.head.ClassHead.{ClassHead}
use Rattle.typed_calls.specs.declared.copies.Copying.{Copying}
use Rattle.typed_calls.specs.declared.copies.Copying.TheVariants.{Same, ById}
use Rattle.static_types.specs.declared.kind.Primitive.{Primitive}
use Rattle.static_types.specs.declared.kind.Primitive.TheVariants as P
use Rattle.static_types.specs.declared.kind.ValueType.{ValueType}
use Rattle.static_types.specs.declared.kind.ValueType.TheOpen.{ValueType-F}
use Rattle.static_types.specs.declared.kind.ValueType.TheViews.{out-ValueType}
use Rattle.static_types.specs.Types.{same_primitive}
use Rattle.typed_program.specs.declared.expr.Conversion.{Conversion}
use Rattle.typed_values.specs.declared.typed.Kind.{Kind}
use Rattle.typed_values.specs.declared.typed.Kind.TheVariants as K
use Rattle.typed_values.specs.Fits.{conversion, lists_records}

abbrev pub is_primitive : ValueType-F ValueType → Primitive → Bool
is_primitive (ValueType-F.Primitive q) p = same_primitive q p
is_primitive _ p = false

abbrev pub lists_primitives : ValueType-F ValueType → Primitive → Bool
lists_primitives (ValueType-F.List item) p = is_primitive (out-ValueType item) p
lists_primitives _ p = false

-- records by their Ids
abbrev pub by_id : ValueType-F ValueType → ValueType → Option Copying
by_id (ValueType-F.Record object) arg = cond (lists_records (out-ValueType arg) object) (Some ById) None
by_id _ arg = None

abbrev pub of_other : ValueType-F ValueType → ValueType → Option Copying
of_other (ValueType-F.Set p) arg = cond (lists_primitives (out-ValueType arg) p) (Some Same) None
of_other (ValueType-F.Map P.Id value) arg = by_id (out-ValueType value) arg
of_other _ arg = None

abbrev pub of_kind : ValueType → Kind → Option Copying
of_kind to (K.Is kind) = of_other (out-ValueType to) kind
of_kind to _ = None

abbrev pub copied_or : Option Conversion → Option Copying → Option Copying
copied_or (Some how) other = Some Same
copied_or None other = other

abbrev pub copying_of : List ClassHead → ValueType → Kind → Option Copying
copying_of heads to arg = copied_or (conversion heads arg to) (of_kind to arg)
