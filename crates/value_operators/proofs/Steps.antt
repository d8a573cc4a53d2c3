-- Operands that stay what they are, and quotients of Decimals.
use Rattle.std.proofs.Common.{arith, eqb, ◌≡◌, ◌≢◌, ◌↔◌, zero, suc, ℤ, pos, negsuc, ◌*ℤ◌, Bool, true, false, cond, ◌||◌, Result, Err, refl}
use Rattle.std.proofs.lemmas.Int.{ints}
use Rattle.apex_num.specs.Decimals.{Answers, IsHalfEven}
use Rattle.apex_num.specs.declared.dec.NumFault.{NumFault}
use Rattle.apex_num.specs.declared.dec.NumFault.TheVariants as Fault
use Rattle.platform_errors.specs.declared.thrown.Thrown.TheVariants.{DivideByZero}
use Rattle.typed_program.specs.declared.expr.Arithmetic.TheVariants.{Over}
use Rattle.value_operators.specs.declared.calculated.Calculated.TheVariants.{Fails}
use Rattle.value_operators.proofs.Rounding.{rounded_is}
use Rattle.txn_heap.specs.declared.thing.Value.{Value}
use Rattle.typed_program.specs.declared.expr.Conversion.{Conversion}
use Rattle.typed_program.specs.declared.expr.Conversion.TheVariants.{Same}
use Rattle.typed_program.specs.declared.expr.TypedOp.{TypedOp}
use Rattle.value_operators.specs.Operators.{Calc, is_null, calculated, applied, decimal, rounded, on_decimals}

either : (b : Bool) (c : Calc) → cond b c c ≡ c
either true c = refl
either false c = refl

pub as_they_are : (left right : Conversion) (op : TypedOp) (v w : Value) → left ≡ Same → right ≡ Same → applied left op right v w ≡ calculated op v w
as_they_are left right op v w e f = rw e (rw f (either (is_null v || is_null w) (calculated op v w)))

-- ---- quotients of Decimals

pub million : pos 1000000 ≢ pos 0
million e = omega (arith, ints)

pub quotient_is : (x y : ℤ) (r : Result ℤ NumFault) (c : Calc) → (y ≡ pos 0) ↔ (r ≡ Err Fault.DivideByZero) → ((q : ℤ) → y ≢ pos 0 → IsHalfEven (x *ℤ pos 1000000) y q → Answers q r) →
    ((d : ℤ) → Answers d r → c ≡ decimal d) → (r ≡ Err Fault.DivideByZero → c ≡ Fails DivideByZero) → c ≡ on_decimals Over x y
quotient_is x (pos zero) r c by only range none = none (by.0 refl)
quotient_is x (pos (suc y)) r c by only range none =
    let some : pos (suc y) ≢ pos 0 = λ e. omega (arith, ints) in
    let here : eqb (suc y) 0 ≡ false = grind arith in
    rw here (range (rounded (x *ℤ pos 1000000) (pos (suc y))) (only _ some (rounded_is (x *ℤ pos 1000000) (pos (suc y)) some)))
quotient_is x (negsuc y) r c by only range none =
    let some : negsuc y ≢ pos 0 = λ e. omega (arith, ints) in
    let here : eqb (suc y) 0 ≡ false = grind arith in
    rw here (range (rounded (x *ℤ pos 1000000) (negsuc y)) (only _ some (rounded_is (x *ℤ pos 1000000) (negsuc y) some)))
