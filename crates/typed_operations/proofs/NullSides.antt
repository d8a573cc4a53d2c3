-- Whether `null` is taken doesn't hang on the side.
use Rattle.std.proofs.Common.{◌≡◌, refl, List, Bool, true, false, cond, Option, None, Some}
use Rattle.apex_syntax.specs.declared.expr.BinaryOp.{BinaryOp}
use Rattle.apex_syntax.specs.declared.expr.BinaryOp.TheVariants as B
use Rattle.class_tables.specs.declared.head.ClassHead.{ClassHead}
use Rattle.static_types.specs.declared.kind.Primitive.{Primitive}
use Rattle.static_types.specs.declared.kind.Primitive.TheVariants as P
use Rattle.typed_operations.specs.Judgements.{judge, is_refused, scaled, left_scale, ordered, scale_of, left_measure, arithmetic, measure_of, plain, logical, is_truth, equal, plus}
use Rattle.typed_operations.specs.Sorts.{sort_of}
use Rattle.typed_operations.specs.declared.judgement.Judged.TheVariants.{Left, Right}
use Rattle.typed_operations.specs.declared.judgement.Measure.{Measure}
use Rattle.typed_operations.specs.declared.judgement.Measure.TheVariants as M
use Rattle.typed_operations.specs.declared.judgement.Scale.{Scale}
use Rattle.typed_operations.specs.declared.judgement.Scale.TheVariants as Scales
use Rattle.typed_operations.specs.declared.sort.Sort.{Sort}
use Rattle.typed_operations.specs.declared.sort.Sort.TheVariants as S
use Rattle.typed_program.specs.declared.expr.Arithmetic.{Arithmetic}
use Rattle.typed_program.specs.declared.expr.Arithmetic.TheVariants as A
use Rattle.typed_program.specs.declared.expr.Order.{Order}
use Rattle.typed_program.specs.declared.expr.Order.TheVariants as O
use Rattle.typed_program.specs.declared.expr.TypedOp.{TypedOp}
use Rattle.typed_program.specs.declared.expr.TypedOp.TheVariants as T
use Rattle.typed_values.specs.declared.typed.Kind.{Kind}
use Rattle.typed_values.specs.declared.typed.Kind.TheVariants as K

scaled_sides : (op : Order) (s : Scale) → is_refused (scaled op s Scales.Open) ≡ is_refused (scaled op Scales.Open s)
scaled_sides op Scales.Open = refl
scaled_sides op (Scales.Number n) = refl
scaled_sides op Scales.Date = refl
scaled_sides op Scales.Datetime = refl

scale_sides : (op : Order) (s : Option Scale) → is_refused (left_scale op s (Some Scales.Open)) ≡ is_refused (left_scale op (Some Scales.Open) s)
scale_sides op None = refl
scale_sides op (Some s) = scaled_sides op s

ordered_sides : (op : Order) (s : Sort) → is_refused (ordered op s S.Null) ≡ is_refused (ordered op S.Null s)
ordered_sides op s = scale_sides op (scale_of s)

measure_sides : (op : Arithmetic) (m : Option Measure) → is_refused (left_measure op m (Some M.Null)) ≡ is_refused (left_measure op (Some M.Null) m)
measure_sides op None = refl
measure_sides op (Some M.Null) = refl
measure_sides op (Some M.Faulty) = refl
measure_sides op (Some (M.Number n)) = refl

arithmetic_sides : (op : Arithmetic) (s : Sort) → is_refused (arithmetic op s S.Null) ≡ is_refused (arithmetic op S.Null s)
arithmetic_sides op s = measure_sides op (measure_of s)

primitive_sides : (p : Primitive) → is_refused (plus (S.Primitive p) S.Null) ≡ is_refused (plus S.Null (S.Primitive p))
primitive_sides P.Boolean = refl
primitive_sides P.Integer = refl
primitive_sides P.Long = refl
primitive_sides P.Decimal = refl
primitive_sides P.String = refl
primitive_sides P.Id = refl
primitive_sides P.Date = refl
primitive_sides P.Datetime = refl

plus_sides : (s : Sort) → is_refused (plus s S.Null) ≡ is_refused (plus S.Null s)
plus_sides S.Nothing = refl
plus_sides S.Null = refl
plus_sides S.Faulty = refl
plus_sides (S.Primitive p) = primitive_sides p
plus_sides S.Content = refl
plus_sides S.Instance = refl

truth_sides : (op : TypedOp) (b : Bool) → is_refused (cond b (cond true (plain op P.Boolean) Right) Left) ≡ is_refused (cond true (cond b (plain op P.Boolean) Right) Left)
truth_sides op true = refl
truth_sides op false = refl

logical_sides : (op : TypedOp) (s : Sort) → is_refused (logical op s S.Null) ≡ is_refused (logical op S.Null s)
logical_sides op s = truth_sides op (is_truth s)

equal_sides : (heads : List ClassHead) (op : TypedOp) (k : Kind) → is_refused (equal heads op k K.Null) ≡ is_refused (equal heads op K.Null k)
equal_sides heads op K.Nothing = refl
equal_sides heads op K.Null = refl
equal_sides heads op K.Faulty = refl
equal_sides heads op (K.Is kind) = refl

pub null_sides : (heads : List ClassHead) (k : Kind) (op : BinaryOp) → is_refused (judge heads k op K.Null) ≡ is_refused (judge heads K.Null op k)
null_sides heads k B.Or = logical_sides T.Or (sort_of k)
null_sides heads k B.And = logical_sides T.And (sort_of k)
null_sides heads k B.Equal = equal_sides heads T.Equal k
null_sides heads k B.Differs = equal_sides heads T.Differs k
null_sides heads k B.Less = ordered_sides O.Less (sort_of k)
null_sides heads k B.AtMost = ordered_sides O.AtMost (sort_of k)
null_sides heads k B.More = ordered_sides O.More (sort_of k)
null_sides heads k B.AtLeast = ordered_sides O.AtLeast (sort_of k)
null_sides heads k B.Plus = plus_sides (sort_of k)
null_sides heads k B.Minus = arithmetic_sides A.Minus (sort_of k)
null_sides heads k B.Times = arithmetic_sides A.Times (sort_of k)
null_sides heads k B.Over = arithmetic_sides A.Over (sort_of k)
