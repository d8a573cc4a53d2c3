-- What operators tell operands apart by (docs/language.md, "Operators").
use Rattle.std.specs.Prelude.{Option, None, Some}
use Rattle.static_types.specs.declared.kind.Primitive.{Primitive}
use Rattle.static_types.specs.declared.kind.Primitive.TheVariants as P
use Rattle.static_types.specs.declared.kind.ValueType.{ValueType}
use Rattle.static_types.specs.declared.kind.ValueType.TheOpen.{ValueType-F}
use Rattle.static_types.specs.declared.kind.ValueType.TheViews.{out-ValueType}
use Rattle.typed_program.specs.declared.expr.Conversion.{Conversion}
use Rattle.typed_program.specs.declared.expr.Number.{Number}
use Rattle.typed_program.specs.declared.expr.Number.TheVariants as N
use Rattle.typed_values.specs.declared.typed.Kind.{Kind}
use Rattle.typed_values.specs.declared.typed.Kind.TheVariants as K
use Rattle.typed_values.specs.Fits.{between}
use Rattle.typed_operations.specs.declared.sort.Sort.{Sort}
use Rattle.typed_operations.specs.declared.sort.Sort.TheVariants.{Nothing, Null, Faulty, Primitive as Plain, Content, Instance}

abbrev pub sort_of_type : ValueType-F ValueType → Sort
sort_of_type (ValueType-F.Primitive p) = Plain p
sort_of_type (ValueType-F.List item) = Content
sort_of_type (ValueType-F.Set p) = Content
sort_of_type (ValueType-F.Map p value) = Content
sort_of_type (ValueType-F.Record n) = Content
sort_of_type (ValueType-F.Platform p) = Content
sort_of_type _ = Instance

abbrev pub sort_of : Kind → Sort
sort_of K.Nothing = Nothing
sort_of K.Null = Null
sort_of K.Faulty = Faulty
sort_of (K.Is kind) = sort_of_type (out-ValueType kind)

abbrev pub number_of : Primitive → Option Number
number_of P.Integer = Some N.Integer
number_of P.Long = Some N.Long
number_of P.Decimal = Some N.Decimal
number_of _ = None

abbrev pub type_of_number : Number → Primitive
type_of_number N.Integer = P.Integer
type_of_number N.Long = P.Long
type_of_number N.Decimal = P.Decimal

abbrev pub wider : Number → Number → Number
wider N.Integer b = b
wider N.Long N.Integer = N.Long
wider N.Long b = b
wider N.Decimal b = N.Decimal

abbrev pub widened : Number → Number → Conversion
widened from to = between (type_of_number from) (type_of_number to)
