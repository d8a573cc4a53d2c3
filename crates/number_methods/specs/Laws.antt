-- Laws of the methods of Integer, Long and Decimal, which show that the definitions of `Values` are the intended ones (docs/language.md, "Methods of numbers").
use Rattle.std.specs.Prelude.{◌≡◌, ◌≢◌, ℕ, ◌+◌, ◌*◌, ◌^◌, ◌<◌, ◌↔◌, List, [], ◌∷◌, ◌++◌, Bool, true, ℤ, pos, negsuc, ◌+ℤ◌, ◌*ℤ◌, ◌≤ℤ◌, unsigned_abs, int_rem, FitsSigned, Option, Some}
use Rattle.std.specs.Int.{w32, int_wrap}
use Rattle.apex_num.specs.Decimals.{Spells}
use Rattle.number_methods.specs.Methods.{IsWholeText, whole_of}
use Rattle.number_methods.specs.Values.{is_l, without_l, whole_value, decimal_value}

-- `Integer.valueOf` and `Long.valueOf`: exactly an optional `-` and digits have a value, theirs
abbrev pub WholeOfText : Type 0
WholeOfText = (text : List ℕ) (z : ℤ) → (whole_value text ≡ Some z) ↔ IsWholeText text z

-- an `L` or `l` behind a Long is left out
abbrev pub LetterGoes : Type 0
LetterGoes = (text : List ℕ) (letter : ℕ) → is_l letter ≡ true → without_l (text ++ letter ∷ []) ≡ text

-- `Decimal.valueOf`
abbrev pub DecimalOfText : Type 0
DecimalOfText = (text : List ℕ) (c : ℤ) → (decimal_value text ≡ Some c) ↔ Spells text c

-- `intValue` and `longValue` of a Decimal: what is left out is less than one and has the number's sign
abbrev pub WholeTowardsZero : Type 0
WholeTowardsZero = (c : ℤ) → (rest : ℤ) × (whole_of c *ℤ pos 1000000 +ℤ rest ≡ c) × (unsigned_abs rest < 1000000) × (unsigned_abs (whole_of c) * 1000000 + unsigned_abs rest ≡ unsigned_abs c)

-- `intValue` of a Long: a number of 32 bits that differs by a multiple of 2 ^ 32
abbrev pub WrapsBits : Type 0
WrapsBits = (n : ℤ) → FitsSigned w32 (int_wrap w32 n) × ((k : ℤ) × (int_wrap w32 n +ℤ k *ℤ pos (2 ^ 32) ≡ n))
