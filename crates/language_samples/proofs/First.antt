-- Operators, conditions and variables in blocks.
use Rattle.std.proofs.Common.{◌≡◌, refl, ℕ, true, false, [], ◌∷◌, codes, pos, negsuc, arith}
use Rattle.std.specs.Int.{int_wrap}
use Rattle.std.specs.Str.{is_utf8}
use Rattle.std.proofs.lemmas.Str.{is_utf8-from_IsUtf8}
use Rattle.apex_requests.specs.declared.reply.Outcome.{Outcome}
use Rattle.apex_requests.specs.declared.reply.Outcome.TheVariants.{Ok, Thrown}
use Rattle.builtin_table.specs.declared.exception.ExceptionClass.TheVariants as X
use Rattle.builtin_table.specs.declared.method.Builtin.TheVariants as B
use Rattle.builtin_table.specs.declared.method.PlatformMethod.TheVariants as P
use Rattle.static_types.specs.declared.kind.ValueType.TheOpen.{ValueType-F}
use Rattle.typed_program.specs.declared.expr.Arithmetic.TheVariants.{Plus, Times, Over}
use Rattle.typed_program.specs.declared.expr.Constant.TheVariants as Is
use Rattle.typed_program.specs.declared.expr.Conversion.TheVariants.{Same, ToLong, ToDecimal}
use Rattle.typed_program.specs.declared.expr.Number.TheVariants.{Long, Decimal}
use Rattle.typed_program.specs.declared.expr.Order.TheVariants.{Less, AtMost, More, AtLeast}
use Rattle.typed_program.specs.declared.expr.TypedOp.TheVariants as Op
use Rattle.language_samples.proofs.Known.{ExprOf, constant, number, truth, nothing, text, local, plus, times, fails, op, equal, join, chain, operand, negation, conditional, convert, assign, add_to, up, list, item, at_local, at_item, new_exception, builtin_on}
use Rattle.language_samples.proofs.Stmts.{block, does, say, has, declare, when, while, do_while, for, for_ever, for_each, return, break, continue, throw, catch, try, try_finally}
use Rattle.language_samples.proofs.Classes.{run, comes, says, tells, Told, Came}

abbrev null_thrown : Outcome
null_thrown = Thrown (codes "NullPointerException") (codes "Attempt to de-reference a null object")

abbrev printed : Told
printed = Came Ok 0 (codes "true" ∷ [])

-- Integer i = 2147483647; System.debug(i + 1 == -2147483648);
wraps : run [] (has 0 (number 2147483647) ∷ say (equal (plus (local 0) (number 1)) (constant (Is.Whole (negsuc 2147483647)))) ∷ []) ≡ Came Ok 2 (codes "true" ∷ [])
unfolding int_wrap
wraps = comes 1 [] _ _ (omega arith) (λ rest. refl)

-- Integer x = 1 / 0;
divides : run [] (has 0 fails ∷ []) ≡ Came (Thrown (codes "MathException") (codes "Divide by 0")) 1 []
unfolding int_wrap
divides = comes 1 [] _ _ (omega arith) (λ rest. refl)

utf8_f : is_utf8 (codes "f") ≡ true
unfolding lib.Utf8.encode
utf8_f = is_utf8-from_IsUtf8 (codes "f") (codes "f", (refl, refl))

-- try { Integer x = 1 / 0; } catch (MathException e) { System.debug(e.getMessage()); } finally { System.debug('f'); }
catches : run [] (try_finally (has 0 fails ∷ []) (catch (ValueType-F.Exception X.Math) 0 (say (builtin_on (local 0) (B.Platform P.Message) []) ∷ []) ∷ []) (say (text (codes "f") utf8_f) ∷ []) ∷ []) ≡ Came Ok 4 (codes "Divide by 0" ∷ codes "f" ∷ [])
unfolding int_wrap
catches = comes 1 [] _ _ (omega arith) (λ rest. refl)

-- ---- from left to right

-- Integer x = 1; System.debug(x++ + x * 10 == 21);
left_first : says [] (has 0 (number 1) ∷ say (equal (plus (up (at_local 0)) (times (local 0) (number 10))) (number 21)) ∷ []) ≡ printed
unfolding int_wrap
left_first = tells 1 [] _ _ (omega arith) (λ rest. refl)

-- List<Integer> l = new List<Integer>{ 7, 8 }; Integer i = 0; l[i++] = i; System.debug(l[0] == 1); the parts of the target come first
target_first : says [] (has 0 (list (number 7 ∷ number 8 ∷ [])) ∷ has 1 (number 0) ∷ does (assign (at_item (local 0) (up (at_local 1))) (local 1)) ∷ say (equal (item (local 0) (number 0)) (number 1)) ∷ []) ≡ printed
unfolding int_wrap
target_first = tells 1 [] _ _ (omega arith) (λ rest. refl)

-- Integer x = 1; x += x++; System.debug(x == 2); the variable is read before the value
reads_first : says [] (has 0 (number 1) ∷ does (add_to (at_local 0) (up (at_local 0))) ∷ say (equal (local 0) (number 2)) ∷ []) ≡ printed
unfolding int_wrap
reads_first = tells 1 [] _ _ (omega arith) (λ rest. refl)

-- ---- null

-- Integer x; System.debug(x == null);
null_first : says [] (declare 0 ∷ say (equal (local 0) nothing) ∷ []) ≡ printed
null_first = tells 1 [] _ _ (omega arith) (λ rest. refl)

-- Integer x; Integer y = x + 1;
null_operand : run [] (declare 0 ∷ has 1 (plus (local 0) (number 1)) ∷ []) ≡ Came null_thrown 2 []
null_operand = comes 1 [] _ _ (omega arith) (λ rest. refl)

-- Boolean b; if (b) { }
null_if : run [] (declare 0 ∷ when (local 0) (block []) ∷ []) ≡ Came null_thrown 2 []
null_if = comes 1 [] _ _ (omega arith) (λ rest. refl)

-- Boolean b; while (b) { } is thrown behind the step of the statement and that of its test
null_while : run [] (declare 0 ∷ while (local 0) (block []) ∷ []) ≡ Came null_thrown 3 []
null_while = comes 2 [] _ _ (omega arith) (λ rest. refl)

-- Boolean b; do { } while (b);
null_do : run [] (declare 0 ∷ do_while (block []) (local 0) ∷ []) ≡ Came null_thrown 3 []
null_do = comes 2 [] _ _ (omega arith) (λ rest. refl)

-- Boolean b; for (Integer i = 0; b; i++) { }
null_for : run [] (declare 0 ∷ for 1 (number 0) (local 0) (up (at_local 1)) (block []) ∷ []) ≡ Came null_thrown 3 []
null_for = comes 2 [] _ _ (omega arith) (λ rest. refl)

-- Boolean b; Integer x = b ? 1 : 2;
null_conditional : says [] (declare 0 ∷ has 1 (conditional (local 0) (number 1) (number 2)) ∷ []) ≡ Came null_thrown 0 []
null_conditional = tells 1 [] _ _ (omega arith) (λ rest. refl)

-- Boolean b; System.debug(!b);
null_not : says [] (declare 0 ∷ say (negation (local 0)) ∷ []) ≡ Came null_thrown 0 []
null_not = tells 1 [] _ _ (omega arith) (λ rest. refl)

-- Boolean b; System.debug(b && true);
null_and : says [] (declare 0 ∷ say (op (local 0) Op.And (truth true)) ∷ []) ≡ Came null_thrown 0 []
null_and = tells 1 [] _ _ (omega arith) (λ rest. refl)

-- Boolean b; System.debug(true && b);
null_right : says [] (declare 0 ∷ say (op (truth true) Op.And (local 0)) ∷ []) ≡ Came null_thrown 0 []
null_right = tells 1 [] _ _ (omega arith) (λ rest. refl)

-- Boolean b; System.debug(false || b);
null_or : says [] (declare 0 ∷ say (op (truth false) Op.Or (local 0)) ∷ []) ≡ Came null_thrown 0 []
null_or = tells 1 [] _ _ (omega arith) (λ rest. refl)

-- Boolean b; System.debug(false && b); System.debug(true || b); the left operand decides
left_decides : says [] (declare 0 ∷ say (op (truth false) Op.And (local 0)) ∷ say (op (truth true) Op.Or (local 0)) ∷ []) ≡ Came Ok 0 (codes "false" ∷ codes "true" ∷ [])
left_decides = tells 1 [] _ _ (omega arith) (λ rest. refl)

-- Integer x; System.debug(x < 1); and so on: an order with null is false
null_order : says [] (declare 0 ∷ say (op (local 0) (Op.Order Less) (number 1)) ∷ say (op (number 1) (Op.Order AtMost) (local 0)) ∷ say (op (local 0) (Op.Order More) (number 1)) ∷ say (op (local 0) (Op.Order AtLeast) (local 0)) ∷ [])
    ≡ Came Ok 0 (codes "false" ∷ codes "false" ∷ codes "false" ∷ codes "false" ∷ [])
null_order = tells 1 [] _ _ (omega arith) (λ rest. refl)

-- List<Integer> l; for (Integer i : l) { }
null_each : says [] (declare 0 ∷ for_each 1 (local 0) (block []) ∷ []) ≡ Came null_thrown 0 []
null_each = tells 1 [] _ _ (omega arith) (λ rest. refl)

-- throw null;
null_throw : run [] (throw nothing ∷ []) ≡ Came null_thrown 1 []
null_throw = comes 1 [] _ _ (omega arith) (λ rest. refl)

-- System.debug('f' + null);
utf8_null : is_utf8 (codes "fnull") ≡ true
unfolding lib.Utf8.encode
utf8_null = is_utf8-from_IsUtf8 (codes "fnull") (codes "fnull", (refl, refl))

joins_null : says [] (say (join (text (codes "f") utf8_f) nothing) ∷ []) ≡ Came Ok 0 (codes "fnull" ∷ [])
joins_null = tells 1 [] _ _ (omega arith) (λ rest. refl)

-- a null list at `l[i] = e` is found at the store, behind the value: Integer x = 0; List<Integer> l; try { l[0] = x++; } catch (NullPointerException e) { System.debug(x == 1); }
null_store : says [] (has 0 (number 0) ∷ declare 1 ∷ try (does (assign (at_item (local 1) (number 0)) (up (at_local 0))) ∷ []) (catch (ValueType-F.Exception X.NullPointer) 2 (say (equal (local 0) (number 1)) ∷ []) ∷ []) ∷ []) ≡ printed
unfolding int_wrap
null_store = tells 1 [] _ _ (omega arith) (λ rest. refl)

-- so is a position outside
outside_store : says [] (has 0 (number 0) ∷ has 1 (list []) ∷ try (does (assign (at_item (local 1) (number 0)) (up (at_local 0))) ∷ []) (catch (ValueType-F.Exception X.List) 2 (say (equal (local 0) (number 1)) ∷ []) ∷ []) ∷ []) ≡ printed
unfolding int_wrap
outside_store = tells 1 [] _ _ (omega arith) (λ rest. refl)

-- ---- numbers

-- Long sum = 2147483647 + 1L; System.debug(sum == 2147483648L);
longs : says [] (say (equal (chain (number 2147483647) (operand ToLong (Op.Arithmetic Plus Long) Same (number 1) ∷ [])) (number 2147483648)) ∷ []) ≡ printed
unfolding int_wrap
longs = tells 1 [] _ _ (omega arith) (λ rest. refl)

abbrev decimal : ℕ → ExprOf
decimal millionths = constant (Is.Decimal millionths)

-- System.debug(0.000005 * 0.5 == 0.000002); rounded half to even
rounds : says [] (say (equal (op (decimal 5) (Op.Arithmetic Times Decimal) (decimal 500000)) (decimal 2)) ∷ []) ≡ printed
rounds = tells 1 [] _ _ (omega arith) (λ rest. refl)

-- System.debug(9999999999999.0 * 10.0);
out_of_range : run [] (say (op (decimal 9999999999999000000) (Op.Arithmetic Times Decimal) (decimal 10000000)) ∷ []) ≡ Came (Thrown (codes "MathException") (codes "Out of range")) 1 []
out_of_range = comes 1 [] _ _ (omega arith) (λ rest. refl)

-- Decimal d = 1.0 / 0.0;
decimal_by_zero : says [] (has 0 (op (decimal 1000000) (Op.Arithmetic Over Decimal) (decimal 0)) ∷ []) ≡ Came (Thrown (codes "MathException") (codes "Divide by 0")) 0 []
decimal_by_zero = tells 1 [] _ _ (omega arith) (λ rest. refl)

-- ---- operands are converted when the operator is applied

abbrev wide : ExprOf
wide = constant (Is.Whole (pos 9223372036854775807))

-- Decimal d; Decimal e = d + 9223372036854775807L; a null operand throws first
null_before_range : says [] (declare 0 ∷ has 1 (chain (local 0) (operand Same (Op.Arithmetic Plus Decimal) ToDecimal wide ∷ [])) ∷ []) ≡ Came null_thrown 0 []
unfolding int_wrap
null_before_range = tells 1 [] _ _ (omega arith) (λ rest. refl)

-- System.debug(d < 9223372036854775807L);
order_before_range : says [] (declare 0 ∷ say (chain (local 0) (operand Same (Op.Order Less) ToDecimal wide ∷ [])) ∷ []) ≡ Came Ok 0 (codes "false" ∷ [])
unfolding int_wrap
order_before_range = tells 1 [] _ _ (omega arith) (λ rest. refl)

-- System.debug(d == 9223372036854775807L); nothing is converted
equal_before_range : says [] (declare 0 ∷ say (chain (local 0) (operand Same Op.Equal ToDecimal wide ∷ [])) ∷ []) ≡ Came Ok 0 (codes "false" ∷ [])
unfolding int_wrap
equal_before_range = tells 1 [] _ _ (omega arith) (λ rest. refl)

-- System.debug(d < (Decimal) 9223372036854775807L); a written cast converts where it stands
cast_first : says [] (declare 0 ∷ say (op (local 0) (Op.Order Less) (convert ToDecimal wide)) ∷ []) ≡ Came (Thrown (codes "MathException") (codes "Out of range")) 0 []
unfolding int_wrap
cast_first = tells 1 [] _ _ (omega arith) (λ rest. refl)

-- ---- exceptions

-- try { Integer x = 1 / 0; } catch (NullPointerException e) { } catch (MathException e) { System.debug(true); } catch (Exception e) { }
first_that_fits : says [] (try (has 0 fails ∷ []) (catch (ValueType-F.Exception X.NullPointer) 0 [] ∷ catch (ValueType-F.Exception X.Math) 0 (say (truth true) ∷ []) ∷ catch ValueType-F.AnyException 0 [] ∷ []) ∷ []) ≡ printed
unfolding int_wrap
first_that_fits = tells 1 [] _ _ (omega arith) (λ rest. refl)

any_fits : says [] (try (has 0 fails ∷ []) (catch ValueType-F.AnyException 0 (say (truth true) ∷ []) ∷ catch (ValueType-F.Exception X.Math) 0 [] ∷ []) ∷ []) ≡ printed
unfolding int_wrap
any_fits = tells 1 [] _ _ (omega arith) (λ rest. refl)

-- what a clause throws is caught by none beside it
clauses_throw : says [] (try (has 0 fails ∷ []) (catch (ValueType-F.Exception X.Math) 0 (throw nothing ∷ []) ∷ catch ValueType-F.AnyException 0 [] ∷ []) ∷ []) ≡ Came null_thrown 0 []
unfolding int_wrap
clauses_throw = tells 1 [] _ _ (omega arith) (λ rest. refl)

-- `finally` runs when nothing catches, and then the exception goes on
finally_runs : says [] (try_finally (has 0 fails ∷ []) [] (say (truth true) ∷ []) ∷ say (truth false) ∷ []) ≡ Came (Thrown (codes "MathException") (codes "Divide by 0")) 0 (codes "true" ∷ [])
unfolding int_wrap
finally_runs = tells 1 [] _ _ (omega arith) (λ rest. refl)

-- its own exception replaces that
finally_throws : says [] (try_finally (has 0 fails ∷ []) [] (throw nothing ∷ []) ∷ []) ≡ Came null_thrown 0 []
unfolding int_wrap
finally_throws = tells 1 [] _ _ (omega arith) (λ rest. refl)

-- while (true) { try { Integer x = 1 / 0; } finally { break; } } System.debug(true); so does its `break`
finally_breaks : says [] (while (truth true) (try_finally (has 0 fails ∷ []) [] (break ∷ [])) ∷ say (truth true) ∷ []) ≡ printed
unfolding int_wrap
finally_breaks = tells 3 [] _ _ (omega arith) (λ rest. refl)

-- for (Integer i = 0; i < 2; i++) { try { break; } finally { continue; } } and its `continue`, which goes on with the loop
finally_continues : says [] (declare 1 ∷ for 0 (number 0) (op (local 0) (Op.Order Less) (number 2)) (up (at_local 0)) (try_finally (break ∷ []) [] (continue ∷ [])) ∷ say (truth true) ∷ []) ≡ printed
unfolding int_wrap
finally_continues = tells 5 [] _ _ (omega arith) (λ rest. refl)

-- throw new MathException(); a message that isn't there is told as null
without_message : run [] (throw (new_exception X.Math []) ∷ []) ≡ Came (Thrown (codes "MathException") (codes "null")) 1 []
without_message = comes 1 [] _ _ (omega arith) (λ rest. refl)

-- try { throw new MathException(); } catch (MathException e) { System.debug(e.getMessage() == null); }
message_is_null : says [] (try (throw (new_exception X.Math []) ∷ []) (catch (ValueType-F.Exception X.Math) 0 (say (equal (builtin_on (local 0) (B.Platform P.Message) []) nothing) ∷ []) ∷ []) ∷ []) ≡ printed
message_is_null = tells 1 [] _ _ (omega arith) (λ rest. refl)

-- a `return` of a block is its end, behind `finally`
returns : says [] (try_finally (return nothing ∷ []) [] (say (truth true) ∷ []) ∷ say (truth false) ∷ []) ≡ printed
returns = tells 1 [] _ _ (omega arith) (λ rest. refl)

-- ---- steps

-- for (;;) { break; } has its test all the same
tests_of_for : run [] (for_ever break ∷ []) ≡ Came Ok 3 []
tests_of_for = comes 2 [] _ _ (omega arith) (λ rest. refl)

-- for (Integer i = 0; i < 2; i++) { } has three tests; its initial part and its update are no statements
steps_of_for : run [] (for 0 (number 0) (op (local 0) (Op.Order Less) (number 2)) (up (at_local 0)) (block []) ∷ []) ≡ Came Ok 4 []
unfolding int_wrap
steps_of_for = comes 5 [] _ _ (omega arith) (λ rest. refl)

-- for (Integer i : new List<Integer>{ 1, 2 }) { } has three tests too
steps_of_each : run [] (for_each 0 (list (number 1 ∷ number 2 ∷ [])) (block []) ∷ []) ≡ Came Ok 4 []
steps_of_each = comes 1 [] _ _ (omega arith) (λ rest. refl)

-- statements in braces cost nothing beside those in them
steps_of_blocks : run [] (block (block [] ∷ say (truth true) ∷ []) ∷ []) ≡ Came Ok 1 (codes "true" ∷ [])
steps_of_blocks = comes 1 [] _ _ (omega arith) (λ rest. refl)
