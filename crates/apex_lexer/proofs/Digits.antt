-- What digits come to.
use Rattle.std.proofs.Common.{arith, ◌≡◌, ◌+◌, ◌-◌, ◌*◌, ◌^◌, ◌<◌, ◌≤◌, ◌&&◌, ℕ, zero, suc, Bool, true, false, List, [], ◌∷◌, length, take, get_or, refl, ap, ◌∙◌, subst}
use Rattle.std.specs.List.{list_all}
use Rattle.std.specs.Char.{is_ascii_digit}
use Rattle.std.specs.Int.{IsInRange}
use Rattle.std.specs.Str.Parse.{AllDigits, digits_value}
use Rattle.std.proofs.lemmas.Int.Digits.{digits_value_more, digits_value-lt}
use Rattle.std.proofs.lemmas.Str.{digit_value_digit}
use Rattle.std.proofs.Math.Nat.{pow-le-pow_right}
use Rattle.apex_lexer.proofs.Bools.{both}
use Rattle.std.proofs.Math.Seq.{take-length}

all_at : (test : ℕ → Bool) (xs : List ℕ) (i : ℕ) → list_all test xs ≡ true → i < length xs → test (get_or xs i 0) ≡ true
all_at test [] i e lt = absurd (omega arith)
all_at test (x ∷ xs) i e lt = by (test x) refl e i lt (all_at test xs)
  where
    by : (t : Bool) → test x ≡ t → (t && list_all test xs) ≡ true → (i : ℕ) → i < length (x ∷ xs) → ((j : ℕ) → list_all test xs ≡ true → j < length xs → test (get_or xs j 0) ≡ true) → test (get_or (x ∷ xs) i 0) ≡ true
    by true h all zero lt more = h
    by true h all (suc j) lt more = more j all (omega arith)
    by false h all j lt more = cc

in_range : (c : ℕ) → is_ascii_digit c ≡ true → IsInRange 48 57 c
in_range c e = (grind arith, grind arith)

-- the digits of a run are digits
pub digit_at : (xs : List ℕ) (i : ℕ) → list_all is_ascii_digit xs ≡ true → i < length xs → IsInRange 48 57 (get_or xs i 0)
digit_at xs i e lt = in_range (get_or xs i 0) (all_at is_ascii_digit xs i e lt)

pub value_more : (xs : List ℕ) (i v : ℕ) → list_all is_ascii_digit xs ≡ true → i < length xs → v ≡ digits_value 10 (take i xs) → v * 10 + (get_or xs i 0 - 48) ≡ digits_value 10 (take (i + 1) xs)
value_more xs i v e lt is =
    let d = digit_value_digit (get_or xs i 0) (digit_at xs i e lt) in
    let r = digit_at xs i e lt in
    let low : 48 ≤ get_or xs i 0 = r.0 in
    rw (digits_value_more 10 xs i lt) (omega arith)

grows : (xs : List ℕ) (i j : ℕ) → i + j ≤ length xs → digits_value 10 (take i xs) ≤ digits_value 10 (take (i + j) xs)
grows xs i zero le = let e : i + 0 ≡ i = omega arith in rw e (omega arith)
grows xs i (suc j) le =
    let e : i + suc j ≡ i + j + 1 = omega arith in
    let g = grows xs i j (omega arith) in
    let m = digits_value_more 10 xs (i + j) (omega arith) in
    rw e (rw m (omega arith))

-- a front of digits comes to no more than all of them
pub front_least : (xs : List ℕ) (i most v : ℕ) → i ≤ length xs → v ≡ digits_value 10 (take i xs) → most ≤ v → most ≤ digits_value 10 xs
front_least xs i most v le is m =
    let e : i + (length xs - i) ≡ length xs = omega arith in
    let g : digits_value 10 (take i xs) ≤ digits_value 10 xs = subst (λ l. digits_value 10 (take i xs) ≤ digits_value 10 l) (ap (λ n. take n xs) e ∙ take-length xs) (grows xs i (length xs - i) (omega arith)) in
    omega arith

all_digits : (xs : List ℕ) → list_all is_ascii_digit xs ≡ true → AllDigits 10 xs
all_digits [] e = tt
all_digits (x ∷ xs) e =
    let p = both (is_ascii_digit x) (list_all is_ascii_digit xs) e in
    let d = digit_value_digit x (in_range x p.0) in
    let r = in_range x p.0 in
    let high : x ≤ 57 = r.1 in
    (omega arith, all_digits xs p.1)

-- six digits come to less than a million
pub short_value : (xs : List ℕ) → list_all is_ascii_digit xs ≡ true → length xs ≤ 6 → digits_value 10 xs < 1000000
short_value xs e le =
    let low = digits_value-lt 10 xs (all_digits xs e) in
    let most : 10 ^ length xs ≤ 10 ^ 6 = pow-le-pow_right (omega arith) le in
    omega arith
