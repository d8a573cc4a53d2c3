-- Operators by hand.
use Rattle.std.proofs.Common.{◌≡◌, refl, true, false, codes, pos, negsuc, None, Some}
use Rattle.std.specs.Int.{int_wrap}
use Rattle.apex_num.specs.declared.cell.Cell.TheVariants as C
use Rattle.platform_errors.specs.declared.thrown.Thrown.TheVariants.{DivideByZero, OutOfRange, NullObject, InvalidId}
use Rattle.txn_heap.specs.declared.thing.Value.{Value}
use Rattle.txn_heap.specs.declared.thing.Value.TheVariants.{Plain, Object}
use Rattle.typed_program.specs.declared.expr.Arithmetic.TheVariants.{Plus, Minus, Times, Over}
use Rattle.typed_program.specs.declared.expr.Conversion.TheVariants.{Same, ToLong, ToDecimal, ToId, ToText}
use Rattle.typed_program.specs.declared.expr.Number.TheVariants.{Integer, Long, Decimal}
use Rattle.typed_program.specs.declared.expr.Order.TheVariants.{Less, AtLeast}
use Rattle.typed_program.specs.declared.expr.TypedOp.TheVariants as Op
use Rattle.value_operators.specs.declared.calculated.Calculated.TheVariants.{Val, Fails}
use Rattle.value_operators.specs.Operators.{null, boolean, converted, applied, negated, stepped, truth, joined}

-- 9223372036854775807
abbrev greatest : Value
greatest = Plain (C.Whole (pos 9223372036854775807))

-- with a null Decimal d and the greatest Long b: `d + b` throws, `d < b` and `d == b` are false, and nothing is converted
null_sum : applied Same (Op.Arithmetic Plus Decimal) ToDecimal null greatest ≡ Fails NullObject
null_sum = refl

null_less : applied Same (Op.Order Less) ToDecimal null greatest ≡ boolean false
null_less = refl

null_equal : applied Same Op.Equal ToDecimal null greatest ≡ boolean false
null_equal = refl

nulls_equal : applied Same Op.Equal ToDecimal null null ≡ boolean true
nulls_equal = refl

-- `(Decimal) b`
cast : converted ToDecimal greatest ≡ Fails OutOfRange
cast = refl

-- with a Decimal d the conversion throws, in an order too
decimal_less : applied Same (Op.Order Less) ToDecimal (Plain (C.Num (pos 1))) greatest ≡ Fails OutOfRange
decimal_less = refl

-- 2147483647 + 1, -2147483648 - 1, -2147483648 / -1 and -(-2147483648) wrap
most_more : applied Same (Op.Arithmetic Plus Integer) Same (Plain (C.Whole (pos 2147483647))) (Plain (C.Whole (pos 1))) ≡ Val (Plain (C.Whole (negsuc 2147483647)))
unfolding int_wrap
most_more = refl

least_less : applied Same (Op.Arithmetic Minus Integer) Same (Plain (C.Whole (negsuc 2147483647))) (Plain (C.Whole (pos 1))) ≡ Val (Plain (C.Whole (pos 2147483647)))
unfolding int_wrap
least_less = refl

least_over : applied Same (Op.Arithmetic Over Integer) Same (Plain (C.Whole (negsuc 2147483647))) (Plain (C.Whole (negsuc 0))) ≡ Val (Plain (C.Whole (negsuc 2147483647)))
unfolding int_wrap
least_over = refl

least_minus : negated Integer (Plain (C.Whole (negsuc 2147483647))) ≡ Val (Plain (C.Whole (negsuc 2147483647)))
unfolding int_wrap
least_minus = refl

-- a Long has more bits
long_more : applied ToLong (Op.Arithmetic Plus Long) Same (Plain (C.Whole (pos 2147483647))) (Plain (C.Whole (pos 1))) ≡ Val (Plain (C.Whole (pos 2147483648)))
unfolding int_wrap
long_more = refl

long_most : applied Same (Op.Arithmetic Plus Long) ToLong greatest (Plain (C.Whole (pos 1))) ≡ Val (Plain (C.Whole (negsuc 9223372036854775807)))
unfolding int_wrap
long_most = refl

-- -7 / 2 drops the fraction, 1 / 0 throws
drops : applied Same (Op.Arithmetic Over Integer) Same (Plain (C.Whole (negsuc 6))) (Plain (C.Whole (pos 2))) ≡ Val (Plain (C.Whole (negsuc 2)))
unfolding int_wrap
drops = refl

by_zero : applied Same (Op.Arithmetic Over Integer) Same (Plain (C.Whole (pos 1))) (Plain (C.Whole (pos 0))) ≡ Fails DivideByZero
by_zero = refl

-- 0.000005 * 0.5 is 0.000002, 9999999999999.0 * 10.0 is out of range, 1.0 / 3.0 is 0.333333, 1.0 / 0.0 throws
half_even_product : applied Same (Op.Arithmetic Times Decimal) Same (Plain (C.Num (pos 5))) (Plain (C.Num (pos 500000))) ≡ Val (Plain (C.Num (pos 2)))
half_even_product = refl

too_great : applied Same (Op.Arithmetic Times Decimal) Same (Plain (C.Num (pos 9999999999999000000))) (Plain (C.Num (pos 10000000))) ≡ Fails OutOfRange
too_great = refl

third : applied ToDecimal (Op.Arithmetic Over Decimal) Same (Plain (C.Whole (pos 1))) (Plain (C.Num (pos 3000000))) ≡ Val (Plain (C.Num (pos 333333)))
third = refl

minus_third : applied ToDecimal (Op.Arithmetic Over Decimal) Same (Plain (C.Whole (pos 1))) (Plain (C.Num (negsuc 2999999))) ≡ Val (Plain (C.Num (negsuc 333332)))
minus_third = refl

decimal_by_zero : applied Same (Op.Arithmetic Over Decimal) Same (Plain (C.Num (pos 1000000))) (Plain (C.Num (pos 0))) ≡ Fails DivideByZero
decimal_by_zero = refl

-- 'ABC' == 'abc', and not 'abd'
folded : applied Same Op.Equal Same (Plain (C.Text (codes "ABC"))) (Plain (C.Text (codes "abc"))) ≡ boolean true
folded = refl

other_text : applied Same Op.Differs Same (Plain (C.Text (codes "ABC"))) (Plain (C.Text (codes "abd"))) ≡ boolean true
other_text = refl

-- '001000000000001AAA' == an Id; a text that is no Id throws, but not beside null
id_text : applied ToId Op.Equal Same (Plain (C.Text (codes "001000000000001AAA"))) (Plain (C.Id (codes "001000000000001"))) ≡ boolean true
id_text = refl

no_id : applied Same Op.Equal ToId (Plain (C.Id (codes "001000000000001"))) (Plain (C.Text (codes "x"))) ≡ Fails (InvalidId (codes "x"))
no_id = refl

null_id : applied Same Op.Equal ToId null (Plain (C.Text (codes "x"))) ≡ boolean false
null_id = refl

-- an Id becomes a text of 18 characters
long_text : converted ToText (Plain (C.Id (codes "001D000000IqhSL"))) ≡ Val (Plain (C.Text (codes "001D000000IqhSLIAZ")))
long_text = refl

-- one thing and another, and a thing beside null
one_thing : applied Same Op.Equal Same (Object (record { place = 3 })) (Object (record { place = 3 })) ≡ boolean true
one_thing = refl

two_things : applied Same Op.Equal Same (Object (record { place = 3 })) (Object (record { place = 4 })) ≡ boolean false
two_things = refl

no_thing : applied Same Op.Equal Same (Object (record { place = 3 })) null ≡ boolean false
no_thing = refl

-- `>=` of two equal Dates, `<` of two Booleans
same_day : applied Same (Op.Order AtLeast) Same (Plain (C.Day (negsuc 0))) (Plain (C.Day (negsuc 0))) ≡ boolean true
same_day = refl

no_order : applied Same (Op.Order Less) Same (Plain (C.Bool false)) (Plain (C.Bool true)) ≡ boolean false
no_order = refl

-- `++` of 2147483647, `--` of 0.5 and of null
most_up : stepped true Integer (Plain (C.Whole (pos 2147483647))) ≡ Val (Plain (C.Whole (negsuc 2147483647)))
unfolding int_wrap
most_up = refl

half_down : stepped false Decimal (Plain (C.Num (pos 500000))) ≡ Val (Plain (C.Num (negsuc 499999)))
half_down = refl

null_down : stepped false Long null ≡ Fails NullObject
null_down = refl

-- conditions
truths : truth (Plain (C.Bool false)) ≡ Some false
truths = refl

null_truth : truth null ≡ None
null_truth = refl

-- 'a' + null, and true + 'b'
joined_null : joined (Plain (C.Text (codes "a"))) null ≡ codes "anull"
joined_null = refl

joined_truth : joined (Plain (C.Bool true)) (Plain (C.Text (codes "b"))) ≡ codes "trueb"
joined_truth = refl
