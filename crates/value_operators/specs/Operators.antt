-- What conversions and operators give at values (docs/language.md, "Operators at values").
--
-- What isn't of an operator's type is no operand of a checked program; it answers as null does: arithmetic throws, an order is
-- false, and it is equal to nothing of another kind.
use Rattle.std.specs.Prelude.{ℕ, suc, eqb, ℤ, pos, negsuc, neg_ℤ, ◌+ℤ◌, ◌-ℤ◌, ◌*ℤ◌, unsigned_abs, int_div, Bool, true, false, not, cond, ◌||◌, bytes_eq, List, [], ◌++◌, Option, None, Some}
use Rattle.std.specs.Int.{Width, w32, w64, int_wrap}
use Rattle.std.specs.Ordering.{int_eq, int_cmp, is_lt, is_gt}
use Rattle.std.specs.Str.{str_eq_ignore_ascii_case}
use Rattle.apex_num.specs.declared.cell.Cell.{Cell}
use Rattle.apex_num.specs.declared.cell.Cell.TheVariants as C
use Rattle.apex_num.specs.Ids.{long_id, id_value}
use Rattle.number_methods.specs.Values.{decimal_fits, half_even}
use Rattle.builtin_table.specs.Shown.{shown}
use Rattle.platform_errors.specs.declared.thrown.Thrown.TheVariants.{DivideByZero, OutOfRange, NullObject, InvalidId}
use Rattle.txn_heap.specs.declared.thing.Value.{Value}
use Rattle.txn_heap.specs.declared.thing.Value.TheVariants.{Plain, Object}
use Rattle.typed_program.specs.declared.expr.Arithmetic.{Arithmetic}
use Rattle.typed_program.specs.declared.expr.Arithmetic.TheVariants.{Plus, Minus, Times, Over}
use Rattle.typed_program.specs.declared.expr.Conversion.{Conversion}
use Rattle.typed_program.specs.declared.expr.Conversion.TheVariants.{ToDecimal, ToId, ToText}
use Rattle.typed_program.specs.declared.expr.Number.{Number}
use Rattle.typed_program.specs.declared.expr.Number.TheVariants.{Integer, Long, Decimal}
use Rattle.typed_program.specs.declared.expr.Order.{Order as TheOrder}
use Rattle.typed_program.specs.declared.expr.Order.TheVariants.{Less, AtMost, More, AtLeast}
use Rattle.typed_program.specs.declared.expr.TypedOp.{TypedOp}
use Rattle.typed_program.specs.declared.expr.TypedOp.TheVariants as Op
use Rattle.value_operators.specs.declared.calculated.Calculated.{Calculated}
use Rattle.value_operators.specs.declared.calculated.Calculated.TheVariants.{Val, Fails}

-- a value, or what is thrown in its place
abbrev pub Calc : Type 0
Calc = Calculated

abbrev pub null : Value
null = Plain C.Null

abbrev pub is_null : Value → Bool
is_null (Plain C.Null) = true
is_null _ = false

abbrev pub boolean : Bool → Calc
boolean b = Val (Plain (C.Bool b))

-- what goes on with a value
abbrev pub then : Calc → (Value → Calc) → Calc
then (Val v) behind = behind v
then (Fails t) behind = Fails t

-- ---- conversions

-- so many millionths, where they are a Decimal
abbrev pub decimal : ℤ → Calc
decimal c = cond (decimal_fits c) (Val (Plain (C.Num c))) (Fails OutOfRange)

abbrev pub id_or : Option (List ℕ) → List ℕ → Calc
id_or (Some id) text = Val (Plain (C.Id id))
id_or None text = Fails (InvalidId text)

-- an Integer is a Long as it is; the record of a query is found elsewhere
abbrev pub converted : Conversion → Value → Calc
converted ToDecimal (Plain (C.Whole n)) = decimal (n *ℤ pos 1000000)
converted ToId (Plain (C.Text text)) = id_or (id_value text) text
converted ToText (Plain (C.Id id)) = Val (Plain (C.Text (long_id id)))
converted _ v = Val v

-- ---- arithmetic

-- the exact result, a quotient without its fraction; none of a division by zero
abbrev pub exactly : Arithmetic → ℤ → ℤ → Option ℤ
exactly Plus x y = Some (x +ℤ y)
exactly Minus x y = Some (x -ℤ y)
exactly Times x y = Some (x *ℤ y)
exactly Over x y = cond (eqb (unsigned_abs y) 0) None (Some (int_div x y))

-- it wraps at the bits of the type
abbrev pub wrapped : Width → Option ℤ → Calc
wrapped w (Some n) = Val (Plain (C.Whole (int_wrap w n)))
wrapped w None = Fails DivideByZero

-- n / d, rounded half-even
abbrev pub rounded : ℤ → ℤ → ℤ
rounded n (pos d) = half_even n d
rounded n (negsuc d) = half_even (neg_ℤ n) (suc d)

-- millionths: sums are exact, products and quotients are rounded
abbrev pub on_decimals : Arithmetic → ℤ → ℤ → Calc
on_decimals Plus x y = decimal (x +ℤ y)
on_decimals Minus x y = decimal (x -ℤ y)
on_decimals Times x y = decimal (rounded (x *ℤ y) (pos 1000000))
on_decimals Over x y = cond (eqb (unsigned_abs y) 0) (Fails DivideByZero) (decimal (rounded (x *ℤ pos 1000000) y))

abbrev pub arithmetic : Arithmetic → Number → Value → Value → Calc
arithmetic a Integer (Plain (C.Whole x)) (Plain (C.Whole y)) = wrapped w32 (exactly a x y)
arithmetic a Long (Plain (C.Whole x)) (Plain (C.Whole y)) = wrapped w64 (exactly a x y)
arithmetic a Decimal (Plain (C.Num x)) (Plain (C.Num y)) = on_decimals a x y
arithmetic a number v w = Fails NullObject

-- ---- comparisons

abbrev pub same_truth : Bool → Bool → Bool
same_truth true b = b
same_truth false b = not b

-- texts are the same without regard to ASCII case
abbrev pub same_cell : Cell → Cell → Bool
same_cell C.Null C.Null = true
same_cell (C.Bool a) (C.Bool b) = same_truth a b
same_cell (C.Whole a) (C.Whole b) = int_eq a b
same_cell (C.Num a) (C.Num b) = int_eq a b
same_cell (C.Text a) (C.Text b) = str_eq_ignore_ascii_case a b
same_cell (C.Id a) (C.Id b) = bytes_eq a b
same_cell (C.Day a) (C.Day b) = int_eq a b
same_cell (C.Moment a) (C.Moment b) = int_eq a b
same_cell _ _ = false

-- things are the same where they are one thing
abbrev pub equal : Value → Value → Bool
equal (Plain c) (Plain d) = same_cell c d
equal (Object r) (Object s) = eqb r.place s.place
equal _ _ = false

abbrev pub stands : TheOrder → ℤ → ℤ → Bool
stands Less x y = is_lt (int_cmp x y)
stands AtMost x y = not (is_gt (int_cmp x y))
stands More x y = is_gt (int_cmp x y)
stands AtLeast x y = not (is_lt (int_cmp x y))

-- numbers, Dates and Datetimes have an order
abbrev pub in_order : TheOrder → Value → Value → Bool
in_order o (Plain (C.Whole x)) (Plain (C.Whole y)) = stands o x y
in_order o (Plain (C.Num x)) (Plain (C.Num y)) = stands o x y
in_order o (Plain (C.Day x)) (Plain (C.Day y)) = stands o x y
in_order o (Plain (C.Moment x)) (Plain (C.Moment y)) = stands o x y
in_order o v w = false

-- ---- operators

-- of operands as they are; texts are joined, and `&&` and `||` decide, elsewhere
abbrev pub calculated : TypedOp → Value → Value → Calc
calculated (Op.Arithmetic a number) v w = arithmetic a number v w
calculated Op.Equal v w = boolean (equal v w)
calculated Op.Differs v w = boolean (not (equal v w))
calculated (Op.Order o) v w = boolean (in_order o v w)
calculated _ v w = Fails NullObject

-- the operands are converted when the operator is applied, the left one first; where one is null, neither is
abbrev pub applied : Conversion → TypedOp → Conversion → Value → Value → Calc
applied left op right v w = cond (is_null v || is_null w) (calculated op v w) (then (converted left v) (λ x. then (converted right w) (λ y. calculated op x y)))

-- `-` of one
abbrev pub negated : Number → Value → Calc
negated Integer (Plain (C.Whole x)) = wrapped w32 (Some (neg_ℤ x))
negated Long (Plain (C.Whole x)) = wrapped w64 (Some (neg_ℤ x))
negated Decimal (Plain (C.Num x)) = Val (Plain (C.Num (neg_ℤ x)))
negated number v = Fails NullObject

-- `++` and `--`
abbrev pub one : Number → Value
one Decimal = Plain (C.Num (pos 1000000))
one number = Plain (C.Whole (pos 1))

abbrev pub stepped : Bool → Number → Value → Calc
stepped true number v = arithmetic Plus number v (one number)
stepped false number v = arithmetic Minus number v (one number)

-- a condition; null is none
abbrev pub truth : Value → Option Bool
truth (Plain (C.Bool b)) = Some b
truth v = None

-- ---- joined texts

-- things aren't joined
abbrev pub plain_text : Value → List ℕ
plain_text (Plain c) = shown c
plain_text (Object r) = []

abbrev pub joined : Value → Value → List ℕ
joined v w = plain_text v ++ plain_text w
