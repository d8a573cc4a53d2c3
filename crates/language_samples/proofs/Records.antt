-- Records in memory: their cells are read and assigned to.
use Rattle.std.proofs.Common.{◌≡◌, refl, ℕ, true, false, [], ◌∷◌, codes, arith}
use Rattle.std.specs.Int.{int_wrap}
use Rattle.apex_num.specs.declared.kind.LimitKind.TheVariants as Limits
use Rattle.apex_requests.specs.declared.reply.Outcome.{Outcome}
use Rattle.apex_requests.specs.declared.reply.Outcome.TheVariants.{Ok, Thrown, Limit}
use Rattle.builtin_table.specs.declared.exception.ExceptionClass.TheVariants as X
use Rattle.limit_meter.specs.Charges.{Charged}
use Rattle.static_types.specs.declared.kind.ValueType.TheOpen.{ValueType-F}
use Rattle.typed_program.specs.declared.expr.Arithmetic.TheVariants.{Plus}
use Rattle.typed_program.specs.declared.expr.Constant.TheVariants as Is
use Rattle.typed_program.specs.declared.expr.Conversion.TheVariants.{Same, ToDecimal}
use Rattle.typed_program.specs.declared.expr.Number.TheVariants.{Decimal}
use Rattle.typed_program.specs.declared.expr.TypedOp.TheVariants as Op
use Rattle.language_samples.proofs.Known.{ExprOf, PlaceOf, constant, number, nothing, local, equal, assign, assign_with, stepped, convert, path, up, at_local, at_cell, cell, cell_part, new_record, pair}
use Rattle.language_samples.proofs.Stmts.{StmtOf, does, say, has, declare, insert, catch, try}
use Rattle.language_samples.proofs.Classes.{sample_objects, says, tells, run_behind, comes_behind, Told, Came}

abbrev null_thrown : Outcome
null_thrown = Thrown (codes "NullPointerException") (codes "Attempt to de-reference a null object")

abbrev printed : Told
printed = Came Ok 0 (codes "true" ∷ [])

abbrev decimal : ℕ → ExprOf
decimal millionths = constant (Is.Decimal millionths)

abbrev five : ExprOf
five = decimal 5000000

abbrev six : ExprOf
six = decimal 6000000

-- Thing__c v = new Thing__c();
abbrev new_thing : StmtOf
new_thing = has 0 (new_record 0 [])

-- v.Amount__c, read and as a variable
abbrev amount : ExprOf
amount = cell (local 0) 0 2

abbrev at_amount : PlaceOf
at_amount = at_cell (local 0) 0 2

-- ---- reading

-- Thing__c v = new Thing__c(); System.debug(v.Amount__c == null);
unset_is_null : says [] (new_thing ∷ say (equal amount nothing) ∷ []) ≡ printed
unfolding sample_objects
unset_is_null = tells 1 [] _ _ (omega arith) (λ rest. refl)

-- Thing__c v = new Thing__c(Amount__c = 5.0); System.debug(v.Amount__c == 5.0);
given_is_read : says [] (has 0 (new_record 0 (pair 2 five ∷ [])) ∷ say (equal amount five) ∷ []) ≡ printed
unfolding sample_objects
given_is_read = tells 1 [] _ _ (omega arith) (λ rest. refl)

-- Thing__c v; System.debug(v.Amount__c);
null_is_read : says [] (declare 0 ∷ say amount ∷ []) ≡ Came null_thrown 0 []
null_is_read = tells 1 [] _ _ (omega arith) (λ rest. refl)

-- in a path that goes on behind a null, a null in front is null
marked_path : says [] (declare 0 ∷ say (equal (path (local 0) (cell_part 0 2 true ∷ [])) nothing) ∷ []) ≡ printed
marked_path = tells 1 [] _ _ (omega arith) (λ rest. refl)

-- where there is a record, the mark makes no difference
marked_record : says [] (has 0 (new_record 0 (pair 2 five ∷ [])) ∷ say (equal (path (local 0) (cell_part 0 2 true ∷ [])) five) ∷ []) ≡ printed
unfolding sample_objects
marked_record = tells 1 [] _ _ (omega arith) (λ rest. refl)

-- ---- assignments

-- v.Amount__c = 5.0; System.debug(v.Amount__c == 5.0);
set_is_read : says [] (new_thing ∷ does (assign at_amount five) ∷ say (equal amount five) ∷ []) ≡ printed
unfolding sample_objects
set_is_read = tells 1 [] _ _ (omega arith) (λ rest. refl)

-- System.debug((v.Amount__c = 5.0) == 5.0);
set_is_told : says [] (new_thing ∷ say (equal (assign at_amount five) five) ∷ []) ≡ printed
unfolding sample_objects
set_is_told = tells 1 [] _ _ (omega arith) (λ rest. refl)

-- Thing__c w = v; w.Amount__c = 5.0; System.debug(v.Amount__c == 5.0);
one_record : says [] (new_thing ∷ has 1 (local 0) ∷ does (assign (at_cell (local 1) 0 2) five) ∷ say (equal amount five) ∷ []) ≡ printed
unfolding sample_objects
one_record = tells 1 [] _ _ (omega arith) (λ rest. refl)

-- v.Amount__c = 5.0; v.Amount__c = null; System.debug(v.Amount__c == null);
null_is_set : says [] (new_thing ∷ does (assign at_amount five) ∷ does (assign at_amount nothing) ∷ say (equal amount nothing) ∷ []) ≡ printed
unfolding sample_objects
null_is_set = tells 1 [] _ _ (omega arith) (λ rest. refl)

abbrev add_one : ExprOf
add_one = assign_with at_amount (record { left = Same; op = Op.Arithmetic Plus Decimal; right = Same; back = Same }) (decimal 1000000)

-- v.Amount__c = 5.0; v.Amount__c += 1.0; System.debug(v.Amount__c == 6.0);
adds : says [] (new_thing ∷ does (assign at_amount five) ∷ does add_one ∷ say (equal amount six) ∷ []) ≡ printed
unfolding sample_objects
adds = tells 1 [] _ _ (omega arith) (λ rest. refl)

-- v.Amount__c = 5.0; System.debug(v.Amount__c++ == 5.0); System.debug(v.Amount__c == 6.0);
steps : says [] (new_thing ∷ does (assign at_amount five) ∷ say (equal (stepped (record { up = true; before = false }) Decimal at_amount) five) ∷ say (equal amount six) ∷ []) ≡ Came Ok 0 (codes "true" ∷ codes "true" ∷ [])
unfolding sample_objects
steps = tells 1 [] _ _ (omega arith) (λ rest. refl)

-- v.Amount__c++ where it isn't set
null_steps : says [] (new_thing ∷ does (stepped (record { up = true; before = false }) Decimal at_amount) ∷ []) ≡ Came null_thrown 0 []
unfolding sample_objects
null_steps = tells 1 [] _ _ (omega arith) (λ rest. refl)

-- ---- a null record

-- found at the store, behind the value: Integer x = 0; Thing__c v; try { v.Amount__c = x++; } catch (NullPointerException e) { System.debug(x == 1); }
null_store : says [] (declare 0 ∷ has 1 (number 0) ∷ try (does (assign at_amount (convert ToDecimal (up (at_local 1)))) ∷ []) (catch (ValueType-F.Exception X.NullPointer) 2 (say (equal (local 1) (number 1)) ∷ []) ∷ []) ∷ []) ≡ printed
unfolding int_wrap
null_store = tells 1 [] _ _ (omega arith) (λ rest. refl)

-- and where the variable is read first, in front of the value: v.Amount__c += x++;
null_before : says [] (declare 0 ∷ has 1 (number 0) ∷ try (does (assign_with at_amount (record { left = Same; op = Op.Arithmetic Plus Decimal; right = ToDecimal; back = Same }) (up (at_local 1))) ∷ []) (catch (ValueType-F.Exception X.NullPointer) 2 (say (equal (local 1) (number 0)) ∷ []) ∷ []) ∷ []) ≡ printed
unfolding int_wrap
null_before = tells 1 [] _ _ (omega arith) (λ rest. refl)

-- ---- the Id

abbrev id : ExprOf
id = cell (local 0) 0 0

-- System.debug(v.Id == null); insert v; System.debug(v.Id == null);
knows_its_id : says [] (new_thing ∷ say (equal id nothing) ∷ insert 0 (local 0) ∷ say (equal id nothing) ∷ []) ≡ Came Ok 0 (codes "true" ∷ codes "false" ∷ [])
unfolding sample_objects
knows_its_id = tells 1 [] _ _ (omega arith) (λ rest. refl)

-- insert v; v.Id = null; insert v; an Id that is null counts as not set
null_id : says [] (new_thing ∷ insert 0 (local 0) ∷ does (assign (at_cell (local 0) 0 0) nothing) ∷ insert 0 (local 0) ∷ say (equal id nothing) ∷ []) ≡ Came Ok 0 (codes "false" ∷ [])
unfolding sample_objects
null_id = tells 1 [] _ _ (omega arith) (λ rest. refl)

-- ---- units

-- a cell costs 32 units at its first setting: the record and the cell take the last 64
first_setting : run_behind (Charged Limits.Alloc 63999936 ∷ []) [] (new_thing ∷ does (assign at_amount five) ∷ does (assign at_amount six) ∷ []) ≡ Came Ok 3 []
unfolding sample_objects
first_setting = comes_behind 1 _ _ _ _ (omega arith) (λ rest. refl)

-- and no unit fewer, though the value is there already
no_room : run_behind (Charged Limits.Alloc 63999937 ∷ []) [] (new_thing ∷ does (assign at_amount five) ∷ []) ≡ Came (Limit Limits.Alloc 64000001) 2 []
unfolding sample_objects
no_room = comes_behind 1 _ _ _ _ (omega arith) (λ rest. refl)

-- a cell that `new` was given costs nothing more, nor does the Id that an insert set
paid_before : run_behind (Charged Limits.Alloc 63999776 ∷ []) [] (has 0 (new_record 0 (pair 2 five ∷ [])) ∷ does (assign at_amount six) ∷ insert 0 (local 0) ∷ does (assign (at_cell (local 0) 0 0) nothing) ∷ []) ≡ Came Ok 11 []
unfolding sample_objects
paid_before = comes_behind 1 _ _ _ _ (omega arith) (λ rest. refl)
