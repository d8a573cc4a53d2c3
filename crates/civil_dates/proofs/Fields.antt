-- Digits of a field.
use Rattle.std.proofs.Common.{arith, ◌≡◌, ◌+◌, ◌-◌, ◌*◌, ◌^◌, ◌<◌, ◌≤◌, ℕ, zero, suc, List, [], ◌∷◌, length, take, get_or, length-take}
use Rattle.std.specs.Char.{digit_value}
use Rattle.std.specs.Int.{IsInRange}
use Rattle.std.specs.Str.Parse.{AllDigits, digits_value}
use Rattle.std.proofs.lemmas.Int.Digits.{digits_more, digits_value_more, digits_value-lt}
use Rattle.std.proofs.lemmas.Str.{digit_value_digit}
use Rattle.std.proofs.lemmas.Str.Parse.{digit_from_value}
use Rattle.std.proofs.Math.Nat.{pow-le-pow_right}

pub more : (text : List ℕ) (i v : ℕ) → i < length text → AllDigits 10 (take i text) → IsInRange 48 57 (get_or text i 0) → v ≡ digits_value 10 (take i text)
    → AllDigits 10 (take (i + 1) text) × (v * 10 + (get_or text i 0 - 48) ≡ digits_value 10 (take (i + 1) text))
more text i v h all digit e =
    let is : digit_value (get_or text i 0) + 48 ≡ get_or text i 0 = digit_value_digit (get_or text i 0) digit in
    let low : 48 ≤ get_or text i 0 = omega arith in
    let below : digit_value (get_or text i 0) < 10 = omega arith in
    (digits_more 10 text i h all below, rw (digits_value_more 10 text i h) (omega arith))

pub small : (text : List ℕ) (i v : ℕ) → length text ≤ 4 → i < length text → AllDigits 10 (take i text) → v ≡ digits_value 10 (take i text) → v < 1000
small text i v len h all e =
    let low : digits_value 10 (take i text) < 10 ^ length (take i text) = digits_value-lt 10 (take i text) all in
    let size : length (take i text) ≤ 3 = rw (length-take i text) (omega arith) in
    let most : 10 ^ length (take i text) ≤ 10 ^ 3 = pow-le-pow_right (omega arith) size in
    omega arith

digit_at : (ds : List ℕ) (i : ℕ) → AllDigits 10 ds → i < length ds → digit_value (get_or ds i 0) < 10
digit_at [] i all h = absurd (omega arith)
digit_at (d ∷ ds) zero all h = all.0
digit_at (d ∷ ds) (suc i) all h = digit_at ds i all.1 (omega arith)

-- a byte that is no digit has no digit's value
pub no_digit : (text : List ℕ) (i : ℕ) → i < length text → (IsInRange 48 57 (get_or text i 0) → ⊥) → AllDigits 10 text → ⊥
no_digit text i h not all = not (digit_from_value (get_or text i 0) (digit_at text i all h))
