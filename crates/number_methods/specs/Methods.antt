-- What the methods of numbers answer (docs/language.md, "Methods of numbers").
use Rattle.std.specs.Prelude.{◌≡◌, ℕ, ◌-◌, ◌^◌, List, ◌++◌, Bool, ℤ, pos, ◌*ℤ◌, int_div, Result}
use Rattle.std.specs.Str.Parse.{IsNumeral, digits_value}
use Rattle.apex_num.specs.Decimals.{sign, signed, IsHalfEven, Answers}
use Rattle.apex_num.specs.declared.dec.NumFault.{NumFault}

-- the text is an optional `-` and digits, and comes to z
pub record IsWholeText (text : List ℕ) (z : ℤ) : Type 0 where
  pub minus : Bool
  pub digits : List ℕ
  pub written : text ≡ sign minus ++ digits
  pub numeral : IsNumeral 10 digits
  pub value : z ≡ signed minus (digits_value 10 digits)

-- so many millionths without what is behind the dot
abbrev pub whole_of : ℤ → ℤ
whole_of c = int_div c (pos 1000000)

-- how many millionths the last digit has, where so many stand behind the dot
abbrev pub unit : ℕ → ℕ
unit places = 10 ^ (6 - places)

-- the answer is c rounded half-even to that many digits, or says that this is no Decimal
abbrev pub Scales : ℤ → ℕ → Result ℤ NumFault → Type 0
Scales c places r = (q : ℤ) × IsHalfEven c (pos (unit places)) q × Answers (q *ℤ pos (unit places)) r
