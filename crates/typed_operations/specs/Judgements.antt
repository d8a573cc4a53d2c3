-- How operators go with their operands (docs/language.md, "Operators").
use Rattle.std.specs.Prelude.{◌&&◌, ◌||◌, Bool, true, false, cond, List, Option, None, Some}
use Rattle.apex_syntax.specs.declared.expr.BinaryOp.{BinaryOp}
use Rattle.apex_syntax.specs.declared.expr.BinaryOp.TheVariants as B
use Rattle.class_tables.specs.declared.head.ClassHead.{ClassHead}
use Rattle.class_tables.specs.Lines.{fits}
use Rattle.static_types.specs.declared.kind.Primitive.{Primitive}
use Rattle.static_types.specs.declared.kind.Primitive.TheVariants as P
use Rattle.static_types.specs.declared.kind.ValueType.{ValueType}
use Rattle.static_types.specs.declared.kind.ValueType.TheOpen.{ValueType-F}
use Rattle.static_types.specs.declared.kind.ValueType.TheViews.{out-ValueType}
use Rattle.static_types.specs.Types.{same_primitive}
use Rattle.typed_program.specs.declared.expr.Arithmetic.{Arithmetic}
use Rattle.typed_program.specs.declared.expr.Arithmetic.TheVariants as A
use Rattle.typed_program.specs.declared.expr.Conversion.{Conversion}
use Rattle.typed_program.specs.declared.expr.Conversion.TheVariants.{Same, ToId}
use Rattle.typed_program.specs.declared.expr.Number.{Number}
use Rattle.typed_program.specs.declared.expr.Number.TheVariants as N
use Rattle.typed_program.specs.declared.expr.Order.{Order}
use Rattle.typed_program.specs.declared.expr.Order.TheVariants as O
use Rattle.typed_program.specs.declared.expr.TypedOp.{TypedOp}
use Rattle.typed_program.specs.declared.expr.TypedOp.TheVariants as T
use Rattle.typed_values.specs.declared.typed.Kind.{Kind}
use Rattle.typed_values.specs.declared.typed.Kind.TheVariants as K
use Rattle.typed_operations.specs.declared.judgement.Judged.{Judged}
use Rattle.typed_operations.specs.declared.judgement.Judged.TheVariants.{Left, Right, Fits}
use Rattle.typed_operations.specs.declared.judgement.Measure.{Measure}
use Rattle.typed_operations.specs.declared.judgement.Measure.TheVariants as M
use Rattle.typed_operations.specs.declared.judgement.Scale.{Scale}
use Rattle.typed_operations.specs.declared.judgement.Scale.TheVariants as Scales
use Rattle.typed_operations.specs.declared.sort.Sort.{Sort}
use Rattle.typed_operations.specs.declared.sort.Sort.TheVariants as S
use Rattle.typed_operations.specs.Sorts.{sort_of, sort_of_type, number_of, type_of_number, wider, widened}

-- the operands fit as they are
abbrev pub plain : TypedOp → Primitive → Judged
plain op gives = Fits (record { left = Same; op = op; right = Same; gives = Some gives })

-- a type with a fault is told elsewhere
abbrev pub unknown : TypedOp → Judged
unknown op = Fits (record { left = Same; op = op; right = Same; gives = None })

-- ---- numbers

abbrev pub measured : Option Number → Option Measure
measured (Some n) = Some (M.Number n)
measured None = None

abbrev pub measure_of : Sort → Option Measure
measure_of S.Null = Some M.Null
measure_of S.Faulty = Some M.Faulty
measure_of (S.Primitive p) = measured (number_of p)
measure_of _ = None

abbrev pub in_numbers : Arithmetic → Conversion → Number → Conversion → Judged
in_numbers op left n right = Fits (record { left = left; op = T.Arithmetic op n; right = right; gives = Some (type_of_number n) })

abbrev pub in_wider : Arithmetic → Number → Number → Number → Judged
in_wider op m n w = in_numbers op (widened m w) w (widened n w)

-- `null` has the type of the other operand, and two of them are Integers
abbrev pub calculated : Arithmetic → Measure → Measure → Judged
calculated op M.Faulty b = unknown (T.Arithmetic op N.Integer)
calculated op a M.Faulty = unknown (T.Arithmetic op N.Integer)
calculated op M.Null M.Null = in_numbers op Same N.Integer Same
calculated op M.Null (M.Number n) = in_numbers op Same n Same
calculated op (M.Number m) M.Null = in_numbers op Same m Same
calculated op (M.Number m) (M.Number n) = in_wider op m n (wider m n)

abbrev pub right_measure : Arithmetic → Measure → Option Measure → Judged
right_measure op a None = Right
right_measure op a (Some b) = calculated op a b

abbrev pub left_measure : Arithmetic → Option Measure → Option Measure → Judged
left_measure op None b = Left
left_measure op (Some a) b = right_measure op a b

abbrev pub arithmetic : Arithmetic → Sort → Sort → Judged
arithmetic op left right = left_measure op (measure_of left) (measure_of right)

-- ---- `+`

abbrev pub join : Judged
join = plain T.Join P.String

-- a String is joined with each primitive, and with `null`
abbrev pub is_joined : Sort → Bool
is_joined S.Null = true
is_joined S.Faulty = true
is_joined (S.Primitive p) = true
is_joined _ = false

abbrev pub is_text : Sort → Bool
is_text (S.Primitive P.String) = true
is_text _ = false

abbrev pub is_faulty : Sort → Bool
is_faulty S.Faulty = true
is_faulty _ = false

-- beside a type with a fault that is told elsewhere anything could be joined
abbrev pub one_is_text : Sort → Sort → Judged
one_is_text left right = cond (is_text left || is_text right) join (unknown (T.Arithmetic A.Plus N.Integer))

-- a String joins on either side, and everything else adds numbers
abbrev pub plus : Sort → Sort → Judged
plus left right =
    cond (is_text left || is_text right || is_faulty left || is_faulty right)
    (cond (is_joined left) (cond (is_joined right) (one_is_text left right) Right) Left)
    (arithmetic A.Plus left right)

-- ---- order: numbers, Dates, or Datetimes

abbrev pub primitive_scale : Primitive → Option Scale
primitive_scale P.Integer = Some (Scales.Number N.Integer)
primitive_scale P.Long = Some (Scales.Number N.Long)
primitive_scale P.Decimal = Some (Scales.Number N.Decimal)
primitive_scale P.Date = Some Scales.Date
primitive_scale P.Datetime = Some Scales.Datetime
primitive_scale _ = None

abbrev pub scale_of : Sort → Option Scale
scale_of S.Null = Some Scales.Open
scale_of S.Faulty = Some Scales.Open
scale_of (S.Primitive p) = primitive_scale p
scale_of _ = None

abbrev pub compared : TypedOp → Conversion → Conversion → Judged
compared op left right = Fits (record { left = left; op = op; right = right; gives = Some P.Boolean })

abbrev pub compared_as : TypedOp → Number → Number → Number → Judged
compared_as op m n w = compared op (widened m w) (widened n w)

abbrev pub scaled : Order → Scale → Scale → Judged
scaled op Scales.Open b = plain (T.Order op) P.Boolean
scaled op a Scales.Open = plain (T.Order op) P.Boolean
scaled op Scales.Date Scales.Date = plain (T.Order op) P.Boolean
scaled op Scales.Datetime Scales.Datetime = plain (T.Order op) P.Boolean
scaled op (Scales.Number m) (Scales.Number n) = compared_as (T.Order op) m n (wider m n)
scaled op _ _ = Right

abbrev pub right_scale : Order → Scale → Option Scale → Judged
right_scale op a None = Right
right_scale op a (Some b) = scaled op a b

abbrev pub left_scale : Order → Option Scale → Option Scale → Judged
left_scale op None b = Left
left_scale op (Some a) b = right_scale op a b

abbrev pub ordered : Order → Sort → Sort → Judged
ordered op left right = left_scale op (scale_of left) (scale_of right)

-- ---- `&&` and `||`

abbrev pub is_truth : Sort → Bool
is_truth S.Null = true
is_truth S.Faulty = true
is_truth (S.Primitive P.Boolean) = true
is_truth _ = false

abbrev pub logical : TypedOp → Sort → Sort → Judged
logical op left right = cond (is_truth left) (cond (is_truth right) (plain op P.Boolean) Right) Left

-- ---- `==` and `!=`

abbrev pub equal_numbers : TypedOp → Option Number → Option Number → Judged
equal_numbers op (Some m) (Some n) = compared_as op m n (wider m n)
equal_numbers op _ _ = Right

-- a String beside an Id becomes one
abbrev pub text_with : TypedOp → Primitive → Judged
text_with op P.Id = compared op ToId Same
text_with op q = Right

abbrev pub id_with : TypedOp → Primitive → Judged
id_with op P.String = compared op Same ToId
id_with op q = Right

abbrev pub other_primitives : TypedOp → Primitive → Primitive → Judged
other_primitives op P.String q = text_with op q
other_primitives op P.Id q = id_with op q
other_primitives op p q = equal_numbers op (number_of p) (number_of q)

abbrev pub equal_primitives : TypedOp → Primitive → Primitive → Judged
equal_primitives op p q = cond (same_primitive p q) (compared op Same Same) (other_primitives op p q)

abbrev pub are_instances : Sort → Sort → Bool
are_instances S.Instance S.Instance = true
are_instances _ _ = false

-- instances are compared where one fits the other
abbrev pub equal_instances : List ClassHead → TypedOp → ValueType → ValueType → Judged
equal_instances heads op a b =
    cond (are_instances (sort_of_type (out-ValueType a)) (sort_of_type (out-ValueType b)) && (fits heads a b || fits heads b a)) (compared op Same Same) Right

abbrev pub equal_forms : List ClassHead → TypedOp → ValueType → ValueType → ValueType-F ValueType → ValueType-F ValueType → Judged
equal_forms heads op a b (ValueType-F.Primitive p) (ValueType-F.Primitive q) = equal_primitives op p q
equal_forms heads op a b _ _ = equal_instances heads op a b

abbrev pub equal_types : List ClassHead → TypedOp → ValueType → ValueType → Judged
equal_types heads op a b = equal_forms heads op a b (out-ValueType a) (out-ValueType b)

abbrev pub equal : List ClassHead → TypedOp → Kind → Kind → Judged
equal heads op K.Nothing right = Left
equal heads op left K.Nothing = Right
equal heads op (K.Is a) (K.Is b) = equal_types heads op a b
equal heads op left right = compared op Same Same

-- ---- all operators

abbrev pub judge : List ClassHead → Kind → BinaryOp → Kind → Judged
judge heads left B.Or right = logical T.Or (sort_of left) (sort_of right)
judge heads left B.And right = logical T.And (sort_of left) (sort_of right)
judge heads left B.Equal right = equal heads T.Equal left right
judge heads left B.Differs right = equal heads T.Differs left right
judge heads left B.Less right = ordered O.Less (sort_of left) (sort_of right)
judge heads left B.AtMost right = ordered O.AtMost (sort_of left) (sort_of right)
judge heads left B.More right = ordered O.More (sort_of left) (sort_of right)
judge heads left B.AtLeast right = ordered O.AtLeast (sort_of left) (sort_of right)
judge heads left B.Plus right = plus (sort_of left) (sort_of right)
judge heads left B.Minus right = arithmetic A.Minus (sort_of left) (sort_of right)
judge heads left B.Times right = arithmetic A.Times (sort_of left) (sort_of right)
judge heads left B.Over right = arithmetic A.Over (sort_of left) (sort_of right)

abbrev pub is_refused : Judged → Bool
is_refused (Fits fit) = false
is_refused _ = true
