-- Laws of the operators, which show that the definitions are the intended ones (docs/language.md, "Operators at values").
use Rattle.std.specs.Prelude.{◌≡◌, ◌≢◌, ℤ, pos, ◌<ℤ◌, ◌≤ℤ◌, ◌↔◌, true, false, not, FitsSigned, Some}
use Rattle.std.specs.Int.{Width}
use Rattle.apex_num.specs.Decimals.{IsDecimal, IsHalfEven}
use Rattle.apex_num.specs.declared.cell.Cell.TheVariants as C
use Rattle.platform_errors.specs.declared.thrown.Thrown.TheVariants.{OutOfRange, NullObject}
use Rattle.txn_heap.specs.declared.thing.Value.{Value}
use Rattle.txn_heap.specs.declared.thing.Value.TheVariants.{Plain}
use Rattle.typed_program.specs.declared.expr.Arithmetic.{Arithmetic}
use Rattle.typed_program.specs.declared.expr.Conversion.{Conversion}
use Rattle.typed_program.specs.declared.expr.Number.{Number}
use Rattle.typed_program.specs.declared.expr.Order.{Order as TheOrder}
use Rattle.typed_program.specs.declared.expr.Order.TheVariants.{Less, AtMost, More, AtLeast}
use Rattle.typed_program.specs.declared.expr.TypedOp.TheVariants as Op
use Rattle.value_operators.specs.declared.calculated.Calculated.TheVariants.{Val, Fails}
use Rattle.value_operators.specs.Operators.{null, is_null, boolean, decimal, wrapped, rounded, equal, stands, applied, converted}

-- arithmetic with null throws, whatever the other operand is, and converts nothing
abbrev pub NullThrows : Type 0
NullThrows =
    (left right : Conversion) (a : Arithmetic) (number : Number) (v : Value) →
    (applied left (Op.Arithmetic a number) right null v ≡ Fails NullObject) × (applied left (Op.Arithmetic a number) right v null ≡ Fails NullObject)

-- nothing stands in order with null
abbrev pub NullHasNoOrder : Type 0
NullHasNoOrder = (left right : Conversion) (o : TheOrder) (v : Value) → (applied left (Op.Order o) right null v ≡ boolean false) × (applied left (Op.Order o) right v null ≡ boolean false)

-- null is equal to null alone
abbrev pub NullIsNull : Type 0
NullIsNull =
    (left right : Conversion) (v : Value) →
    (applied left Op.Equal right null v ≡ boolean (is_null v)) × (applied left Op.Equal right v null ≡ boolean (is_null v)) × (applied left Op.Differs right null v ≡ boolean (not (is_null v)))
    × (applied left Op.Differs right v null ≡ boolean (not (is_null v)))

-- null is converted to null
abbrev pub NullStaysNull : Type 0
NullStaysNull = (how : Conversion) → converted how null ≡ Val null

-- each value is equal to itself
abbrev pub EqualToItself : Type 0
EqualToItself = (v : Value) → equal v v ≡ true

-- values are equal both ways
abbrev pub EqualBothWays : Type 0
EqualBothWays = (v w : Value) → equal v w ≡ equal w v

-- the orders by that of whole numbers
abbrev pub OrderOfNumbers : Type 0
OrderOfNumbers = (x y : ℤ) → ((stands Less x y ≡ true) ↔ (x <ℤ y)) × ((stands AtMost x y ≡ true) ↔ (x ≤ℤ y)) × ((stands More x y ≡ true) ↔ (y <ℤ x)) × ((stands AtLeast x y ≡ true) ↔ (y ≤ℤ x))

-- what a type has doesn't wrap
abbrev pub ExactWhereItFits : Type 0
ExactWhereItFits = (w : Width) (n : ℤ) → FitsSigned w n → wrapped w (Some n) ≡ Val (Plain (C.Whole n))

-- products and quotients are rounded half-even
abbrev pub RoundsHalfEven : Type 0
RoundsHalfEven = (n d : ℤ) → d ≢ pos 0 → IsHalfEven n d (rounded n d)

-- a Decimal is answered exactly in its range
abbrev pub DecimalInRange : Type 0
DecimalInRange = (c : ℤ) → (IsDecimal c → decimal c ≡ Val (Plain (C.Num c))) × ((IsDecimal c → ⊥) → decimal c ≡ Fails OutOfRange)
