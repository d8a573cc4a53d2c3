-- The numbers that texts tell, and rounding, by computation (docs/language.md, "Methods of numbers").
--
-- That the functions tell just what the relations of `Methods` and of `apex_num` mean is what the two clauses of each call
-- come to.
use Rattle.std.specs.Prelude.{ℕ, ◌+◌, ◌-◌, ◌*◌, ◌/◌, ◌%◌, ◌^◌, ◌&&◌, ◌||◌, nat_lt, nat_le, eqb, cond, Bool, true, List, [], ◌∷◌, length, take, slice_index, ℤ, pos, negsuc, neg_ℤ, ◌*ℤ◌, unsigned_abs, Option, None, Some, option_map, option_and_then, Result, Ok, Err}
use Rattle.std.specs.Char.{digit_value}
use Rattle.std.specs.Str.Parse.{digits_value}
use Rattle.number_methods.specs.Methods.{unit}
use Rattle.apex_num.specs.declared.dec.NumFault.{NumFault}
use Rattle.apex_num.specs.declared.dec.NumFault.TheVariants.{OutOfRange}

-- ---- texts

abbrev pub are_digits : List ℕ → Bool
are_digits [] = true
are_digits (c ∷ cs) = nat_lt (digit_value c) 10 && are_digits cs

-- what digits come to, if there are any and nothing else
abbrev pub numeral : List ℕ → Option ℕ
numeral ds = cond (nat_lt 0 (length ds) && are_digits ds) (Some (digits_value 10 ds)) None

-- behind a `-` stands what is taken away
abbrev pub signed_value : (List ℕ → Option ℕ) → List ℕ → Option ℤ
signed_value size [] = option_map pos (size [])
signed_value size (c ∷ cs) = cond (eqb c 45) (option_map (λ n. neg_ℤ (pos n)) (size cs)) (option_map pos (size (c ∷ cs)))

-- an optional `-` and digits
abbrev pub whole_value : List ℕ → Option ℤ
whole_value = signed_value numeral

-- without an `L` or `l` at the end
abbrev pub is_l : ℕ → Bool
is_l b = eqb b 76 || eqb b 108

abbrev pub without_l : List ℕ → List ℕ
without_l [] = []
without_l (c ∷ cs) = cond (is_l (slice_index (c ∷ cs) (length cs))) (take (length cs) (c ∷ cs)) (c ∷ cs)

-- the bytes before the first dot, and those from it on
abbrev pub before_dot : List ℕ → List ℕ
before_dot [] = []
before_dot (c ∷ cs) = cond (eqb c 46) [] (c ∷ before_dot cs)

abbrev pub from_dot : List ℕ → List ℕ
from_dot [] = []
from_dot (c ∷ cs) = cond (eqb c 46) (c ∷ cs) (from_dot cs)

-- the millionths of nothing, or of a dot and one to six digits
abbrev pub part_value : List ℕ → Option ℕ
part_value [] = Some 0
part_value (dot ∷ ds) = cond (nat_le (length ds) 6) (option_map (λ n. n * 10 ^ (6 - length ds)) (numeral ds)) None

-- the millionths of digits, and optionally a dot and one to six digits
abbrev pub size_value : List ℕ → Option ℕ
size_value bs = option_and_then (λ whole. option_map (λ part. whole * 1000000 + part) (part_value (from_dot bs))) (numeral (before_dot bs))

-- the millionths of an optional `-` and that
abbrev pub decimal_value : List ℕ → Option ℤ
decimal_value = signed_value size_value

-- ---- ranges

-- the number is below 2 ^ bits, and -2 ^ bits or above: negsuc n is -1 - n
abbrev pub fits : ℕ → ℤ → Bool
fits bits (pos n) = nat_lt n (2 ^ bits)
fits bits (negsuc n) = nat_lt n (2 ^ bits)

abbrev pub integer_fits : ℤ → Bool
integer_fits = fits 31

abbrev pub long_fits : ℤ → Bool
long_fits = fits 63

-- so many millionths are a Decimal
abbrev pub decimal_fits : ℤ → Bool
decimal_fits c = nat_lt (unsigned_abs c) (10 ^ 19)

-- the number, where it is one of the type
abbrev pub only_if : (ℤ → Bool) → Option ℤ → Option ℤ
only_if p (Some z) = cond (p z) (Some z) None
only_if p None = None

-- a result of arithmetic
abbrev pub in_range : ℤ → Result ℤ NumFault
in_range c = cond (decimal_fits c) (Ok c) (Err OutOfRange)

-- ---- rounding

-- whether the number above n / d is the nearer one, or the even one of two
abbrev pub goes_up : ℕ → ℕ → Bool
goes_up n d = nat_lt d (2 * (n % d)) || (eqb (2 * (n % d)) d && eqb (n / d % 2) 1)

-- the size of n / d, rounded half-even
abbrev pub nearest_size : ℕ → ℕ → ℕ
nearest_size n d = cond (goes_up n d) (n / d + 1) (n / d)

-- n / d, rounded half-even, for d above 0
abbrev pub half_even : ℤ → ℕ → ℤ
half_even (pos n) d = pos (nearest_size n d)
half_even (negsuc n) d = neg_ℤ (pos (nearest_size (n + 1) d))

-- c rounded to so many digits behind the dot
abbrev pub scaled : ℤ → ℕ → ℤ
scaled c places = half_even c (unit places) *ℤ pos (unit places)
