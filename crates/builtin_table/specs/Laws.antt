-- Laws of the methods whose definitions stand in `Meanings` (docs/language.md, "Built-in methods").
use Rattle.std.specs.Prelude.{◌≡◌, ◌≢◌, ◌⊎◌, ℕ, ◌%◌, ◌^◌, ◌<◌, List, length, true, ℤ, pos, neg_ℤ, ◌+ℤ◌, ◌*ℤ◌, ◌≤ℤ◌, unsigned_abs, int_div, int_rem, Some}
use Rattle.std.specs.Int.{int_max, int_min}
use Rattle.std.specs.Ordering.{ordering_reverse}
use Rattle.std.specs.declared.cmp.Ordering.{Ordering}
use Rattle.apex_num.specs.Ids.{long_id, id_value}
use Rattle.apex_num.specs.declared.cell.Cell.{Cell}
use Rattle.builtin_table.specs.Meanings.{size_within, sign_of, compared, blank, empty}

-- `Math.abs` and `Math.signum`: the sign and the size are the number
abbrev pub SignAndSize : Type 0
SignAndSize = (n : ℤ) → sign_of n *ℤ pos (unsigned_abs n) ≡ n

-- the size is answered where the type has it
abbrev pub SizeOfType : Type 0
SizeOfType = (bits : ℕ) (n : ℤ) → unsigned_abs n < 2 ^ bits → size_within bits n ≡ pos (unsigned_abs n)

-- `Math.max` and `Math.min`: no number is greater or less, and together they are both
abbrev pub GreatestAndLeast : Type 0
GreatestAndLeast = (x y : ℤ) → (x ≤ℤ int_max x y) × (y ≤ℤ int_max x y) × (int_min x y ≤ℤ x) × (int_min x y ≤ℤ y) × (int_max x y +ℤ int_min x y ≡ x +ℤ y)

-- `Math.mod`: a rest that is less than the divisor, with the sign of the first number
abbrev pub RestOfQuotient : Type 0
RestOfQuotient = (x y : ℤ) → y ≢ pos 0 → (int_div x y *ℤ y +ℤ int_rem x y ≡ x) × (unsigned_abs (int_rem x y) < unsigned_abs y)

abbrev pub RestHasSign : Type 0
RestHasSign = (n : ℕ) (y : ℤ) → (int_rem (pos n) y ≡ pos (n % unsigned_abs y)) × (int_rem (neg_ℤ (pos n)) y ≡ neg_ℤ (pos (n % unsigned_abs y)))

-- `compareTo`: the other way round is the other number
abbrev pub ComparedBack : Type 0
ComparedBack = (o : Ordering) → compared (ordering_reverse o) ≡ neg_ℤ (compared o)

-- `isBlank` is true wherever `isEmpty` is
abbrev pub EmptyIsBlank : Type 0
EmptyIsBlank = (c : Cell) → empty c ≡ true → blank c ≡ true

-- `Id.valueOf`: 15 characters, which the text is, or with its check characters behind them
abbrev pub IdOfText : Type 0
IdOfText = (bs id : List ℕ) → id_value bs ≡ Some id → (length id ≡ 15) × ((bs ≡ id) ⊎ (bs ≡ long_id id))
