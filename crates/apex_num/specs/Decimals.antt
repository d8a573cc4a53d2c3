-- Decimals: whole numbers of millionths, their rounding and their texts (docs/language.md, "Decimals").
use Rattle.std.specs.Prelude.{◌≡◌, ℕ, zero, suc, ◌+◌, ◌-◌, ◌*◌, ◌/◌, ◌%◌, ◌^◌, ◌<◌, ◌≤◌, ◌⊎◌, Bool, true, false, cond, eqb, ℤ, pos, negsuc, neg_ℤ, ◌*ℤ◌, ◌-ℤ◌, unsigned_abs, List, [], ◌∷◌, ◌++◌, length, codes, decimal, Result, Ok, Err}
use Rattle.std.specs.Str.Parse.{AllDigits, IsNumeral, digits_value}
use Rattle.apex_num.specs.declared.dec.NumFault.{NumFault}
use Rattle.apex_num.specs.declared.dec.NumFault.TheVariants.{OutOfRange, DivideByZero, NotADecimal}

-- ---- range and rounding

-- so many millionths are a Decimal
abbrev pub IsDecimal : ℤ → Type 0
IsDecimal c = unsigned_abs c < 10 ^ 19

-- how far q is from n / d, d times
abbrev pub distance : ℤ → ℤ → ℤ → ℕ
distance n d q = unsigned_abs (n -ℤ q *ℤ d)

-- q is n / d, rounded half-even: it is nearer to the quotient than one half, or it is one half away and even
abbrev pub IsHalfEven : ℤ → ℤ → ℤ → Type 0
IsHalfEven n d q = (2 * distance n d q < unsigned_abs d) ⊎ ((2 * distance n d q ≡ unsigned_abs d) × (unsigned_abs q % 2 ≡ 0))

-- the answer is this Decimal, or says that it is none
abbrev pub Answers : ℤ → Result ℤ NumFault → Type 0
Answers c (Ok d) = (d ≡ c) × IsDecimal c
Answers c (Err fault) = (fault ≡ OutOfRange) × (IsDecimal c → ⊥)

-- the answer is n / d rounded half-even, or says that this is no Decimal
abbrev pub Rounds : ℤ → ℤ → Result ℤ NumFault → Type 0
Rounds n d r = (q : ℤ) × IsHalfEven n d q × Answers q r

-- ---- texts

-- c, or -c
abbrev pub signed : Bool → ℕ → ℤ
signed false c = pos c
signed true c = neg_ℤ (pos c)

abbrev pub sign : Bool → List ℕ
sign false = []
sign true = codes "-"

-- nothing, or a dot and the digits
abbrev pub after_dot : List ℕ → List ℕ
after_dot [] = []
after_dot (d ∷ ds) = codes "." ++ d ∷ ds

-- the text is empty, or a dot and one to six digits, and comes to c millionths
pub record IsPart (text : List ℕ) (c : ℕ) : Type 0 where
  pub part : List ℕ
  pub written : text ≡ after_dot part
  pub digits : AllDigits 10 part
  pub short : length part ≤ 6
  pub value : c ≡ digits_value 10 part * 10 ^ (6 - length part)

-- the text is digits, and optionally a dot with one to six digits, and comes to c millionths
pub record IsSize (text : List ℕ) (c : ℕ) : Type 0 where
  pub whole : List ℕ
  pub after : List ℕ
  pub millionths : ℕ
  pub written : text ≡ whole ++ after
  pub digits : IsNumeral 10 whole
  pub rest : IsPart after millionths
  pub value : c ≡ digits_value 10 whole * 1000000 + millionths

-- the text is an optional `-`, digits, and optionally a dot with one to six digits, and comes to c millionths
pub record Spells (text : List ℕ) (c : ℤ) : Type 0 where
  pub minus : Bool
  pub body : List ℕ
  pub size : ℕ
  pub written : text ≡ sign minus ++ body
  pub rest : IsSize body size
  pub value : c ≡ signed minus size

-- what reading the text answers
abbrev pub Reads : List ℕ → Result ℤ NumFault → Type 0
Reads text (Ok d) = Spells text d × IsDecimal d
Reads text (Err OutOfRange) = (c : ℤ) × Spells text c × (IsDecimal c → ⊥)
Reads text (Err DivideByZero) = ⊥
Reads text (Err NotADecimal) = (c : ℤ) → Spells text c → ⊥

-- the digits of f / 10 ^ k after the dot, up to the last that isn't 0
abbrev pub part_digits : ℕ → ℕ → List ℕ
part_digits zero f = []
part_digits (suc k) f = cond (eqb f 0) [] ((48 + f / 10 ^ k) ∷ part_digits k (f % 10 ^ k))

-- the text of a Decimal
abbrev pub size_text : ℕ → List ℕ
size_text c = decimal (c / 1000000) ++ after_dot (part_digits 6 (c % 1000000))

abbrev pub dec_text : ℤ → List ℕ
dec_text (pos c) = size_text c
dec_text (negsuc c) = codes "-" ++ size_text (suc c)
