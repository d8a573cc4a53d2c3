-- The digits after the dot, as they are written.
use Rattle.std.proofs.Common.{arith, ◌≡◌, ◌≢◌, ◌+◌, ◌-◌, ◌*◌, ◌/◌, ◌%◌, ◌^◌, ◌<◌, ◌≤◌, ◌++◌, ⊎_elim, ℕ, zero, suc, List, [], ◌∷◌, length, take, drop, set, cond, refl, sym, ap, subst, ◌∙◌, drop-drop, decimal, ℤ, pos, negsuc, unsigned_abs, Bool, true, false}
use Rattle.std.proofs.lemmas.Int.{ints}
use Rattle.std.proofs.lemmas.Int.Digits.{digits_value-lt}
use Rattle.std.specs.Char.{digit_value}
use Rattle.std.specs.Str.Parse.{AllDigits, digits_value, digits_value_after}
use Rattle.std.proofs.lemmas.Fmt.{length-decimal-le, decimal_is_IsNumeral}
use Rattle.std.proofs.lemmas.Str.{digit_value_digit}
use Rattle.std.proofs.lemmas.List.{take_more_set, drop-set-lt, length-set, append_assoc, length-append, length-take-le}
use Rattle.std.proofs.lemmas.Bool.Decides.{eqb_tells}
use Rattle.std.proofs.Math.Nat.{mod-lt, one-le-pow, div-lt_iff_lt-mul, pow-suc, mul_comm, mod-add-div, div-add-mod', mul-add-mod_self_right, mod-eq_of_lt, mul-lt-mul_of_pos_right}
use Rattle.std.proofs.Math.Pow.{pow-add}
use Rattle.apex_num.specs.Decimals.{IsSize, Spells, IsDecimal, after_dot, sign, signed, part_digits, size_text, dec_text}
use Rattle.apex_num.proofs.Reading.{part_below, spells_plain, spells_minus, size_of_signed}

part_step : (j f : ℕ) → f ≢ 0 → part_digits (suc j) f ≡ (48 + f / 10 ^ j) ∷ part_digits j (f % 10 ^ j)
part_step j f some = ⊎_elim (λ none. absurd (some none.1)) (λ more. ap (λ b. cond b [] ((48 + f / 10 ^ j) ∷ part_digits j (f % 10 ^ j))) more.0) (eqb_tells f 0)

drop-more : (xs ys : List ℕ) (n : ℕ) → drop n xs ≡ drop n ys → drop (n + 1) xs ≡ drop (n + 1) ys
drop-more xs ys n e = sym (drop-drop 1 n xs) ∙ ap (drop 1) e ∙ drop-drop 1 n ys

-- one digit more
pub print_step : (into front old : List ℕ) (end at k rest unit : ℕ) → k ≤ 6 → rest < 10 ^ k → rest ≢ 0 → end + k ≡ at + 7 → at + 7 ≤ length old → unit ≡ 10 ^ (k - 1)
    → length into ≡ length old → take end into ++ part_digits k rest ≡ front → drop end into ≡ drop end old
    → (k - 1 ≤ 6) × (rest % unit < 10 ^ (k - 1)) × (end + 1 + (k - 1) ≡ at + 7) × (length (set into end (48 + rest / unit)) ≡ length old)
    × (take (end + 1) (set into end (48 + rest / unit)) ++ part_digits (k - 1) (rest % unit) ≡ front)
    × (drop (end + 1) (set into end (48 + rest / unit)) ≡ drop (end + 1) old)
print_step into front old end at zero rest unit k6 below some sum room u l e d = absurd (let one : rest < 1 = below in some (omega arith))
print_step into front old end at (suc j) rest unit k6 below some sum room u l e d =
    let h : end < length into = omega arith in
    let less : suc j - 1 ≡ j = omega arith in
    let is : unit ≡ 10 ^ j = u ∙ ap (λ k. 10 ^ k) less in
    let positive : 0 < 10 ^ j = one-le-pow j 10 (omega arith) in (
      omega arith,
      rw less (rw is (mod-lt rest positive)),
      omega arith,
      length-set into end (48 + rest / unit) ∙ l,
      rw less (rw (take_more_set into end (48 + rest / unit) h) (rw is (append_assoc (take end into) ((48 + rest / 10 ^ j) ∷ []) (part_digits j (rest % 10 ^ j)) ∙ ap (λ ds. take end into ++ ds) (sym (part_step j rest some)) ∙ e))),
      drop-set-lt (end + 1) into end (48 + rest / unit) (omega arith) ∙ drop-more into old end d,
    )

pub short_decimal : (n : ℕ) → n < 10 ^ 13 → length (decimal n) ≤ 13
short_decimal n h = length-decimal-le 13 n (omega arith) h (omega arith)

pub drop_further : (xs ys : List ℕ) (m n : ℕ) → m ≤ n → drop m xs ≡ drop m ys → drop n xs ≡ drop n ys
drop_further xs ys m n h e =
    let sum : m + (n - m) ≡ n = omega arith in
    subst (λ k. drop k xs ≡ drop k ys) sum (sym (drop-drop (n - m) m xs) ∙ ap (drop (n - m)) e ∙ drop-drop (n - m) m ys)

-- ---- the text spells the number

digit_is : (d : ℕ) → d < 10 → digit_value (48 + d) ≡ d
digit_is d h = let e = digit_value_digit (48 + d) (omega arith, omega arith) in omega arith

quotient_digit : (k f : ℕ) → f < 10 ^ suc k → f / 10 ^ k < 10
quotient_digit k f h = (div-lt_iff_lt-mul (one-le-pow k 10 (omega arith))).1 (subst (λ p. f < p) (pow-suc 10 k ∙ mul_comm (10 ^ k) 10) h)

part_all : (k f : ℕ) → f < 10 ^ k → AllDigits 10 (part_digits k f)
part_all zero f h = tt
part_all (suc k) f h = ⊎_elim
    (λ none. subst (AllDigits 10) (sym (ap (λ b. cond b [] ((48 + f / 10 ^ k) ∷ part_digits k (f % 10 ^ k))) none.0)) tt)
    (λ some. subst (AllDigits 10) (sym (part_step k f some.1)) (subst (λ d. d < 10) (sym (digit_is (f / 10 ^ k) (quotient_digit k f h))) (quotient_digit k f h), part_all k (f % 10 ^ k) (mod-lt f (one-le-pow k 10 (omega arith)))))
    (eqb_tells f 0)

part_length : (k f : ℕ) → length (part_digits k f) ≤ k
part_length zero f = omega arith
part_length (suc k) f = ⊎_elim
    (λ none. subst (λ ds. length ds ≤ suc k) (sym (ap (λ b. cond b [] ((48 + f / 10 ^ k) ∷ part_digits k (f % 10 ^ k))) none.0)) (omega arith))
    (λ some. subst (λ ds. length ds ≤ suc k) (sym (part_step k f some.1)) (let r = part_length k (f % 10 ^ k) in omega arith))
    (eqb_tells f 0)

zero_plus : (x : ℕ) → 0 * 10 + x ≡ x
zero_plus x = omega arith

shift : (n d p v : ℕ) → (n * 10 + d) * p + v ≡ n * (p * 10) + (d * p + v)
shift n d p v = grind arith

after_value : (n : ℕ) (ds : List ℕ) → digits_value_after 10 n ds ≡ n * 10 ^ length ds + digits_value 10 ds
after_value n [] = omega arith
after_value n (d ∷ ds) =
    let here = after_value (n * 10 + digit_value d) ds in
    let front = after_value (0 * 10 + digit_value d) ds in
    here ∙ shift n (digit_value d) (10 ^ length ds) (digits_value 10 ds) ∙ ap (λ p. n * p + (digit_value d * 10 ^ length ds + digits_value 10 ds)) (sym (pow-suc 10 (length ds)))
    ∙ ap (λ v. n * 10 ^ suc (length ds) + v) (ap (λ x. x * 10 ^ length ds + digits_value 10 ds) (sym (zero_plus (digit_value d))) ∙ sym front)

spread : (q v p r : ℕ) → (q * p + v) * r ≡ q * (p * r) + v * r
spread q v p r = grind arith

zero_times : (p f : ℕ) → f ≡ 0 → 0 * p ≡ f
zero_times p f e = omega arith

powers : (j k : ℕ) → j ≤ k → 10 ^ j * 10 ^ (k - j) ≡ 10 ^ k
powers j k h = let sum : j + (k - j) ≡ k = omega arith in sym (pow-add 10 j (k - j)) ∙ ap (λ i. 10 ^ i) sum

part_value : (k f : ℕ) → f < 10 ^ k → digits_value 10 (part_digits k f) * 10 ^ (k - length (part_digits k f)) ≡ f
part_value zero f h = let one : f < 1 = h in omega arith
part_value (suc k) f h = ⊎_elim
    (λ none. subst (λ ds. digits_value 10 ds * 10 ^ (suc k - length ds) ≡ f) (sym (ap (λ b. cond b [] ((48 + f / 10 ^ k) ∷ part_digits k (f % 10 ^ k))) none.0)) (zero_times (10 ^ (suc k - 0)) f none.1))
    (λ some. subst (λ ds. digits_value 10 ds * 10 ^ (suc k - length ds) ≡ f) (sym (part_step k f some.1)) (more (part_digits k (f % 10 ^ k)) (part_length k (f % 10 ^ k)) (part_value k (f % 10 ^ k) (mod-lt f (one-le-pow k 10 (omega arith))))))
    (eqb_tells f 0)
  where
    more : (ds : List ℕ) → length ds ≤ k → digits_value 10 ds * 10 ^ (k - length ds) ≡ f % 10 ^ k → digits_value_after 10 (0 * 10 + digit_value (48 + f / 10 ^ k)) ds * 10 ^ (suc k - suc (length ds)) ≡ f
    more ds short is =
        let q : 0 * 10 + digit_value (48 + f / 10 ^ k) ≡ f / 10 ^ k = zero_plus (digit_value (48 + f / 10 ^ k)) ∙ digit_is (f / 10 ^ k) (quotient_digit k f h) in
        let e : suc k - suc (length ds) ≡ k - length ds = omega arith in
        let whole : f % 10 ^ k + 10 ^ k * (f / 10 ^ k) ≡ f = mod-add-div f (10 ^ k) in
        let turned : f / 10 ^ k * 10 ^ k ≡ 10 ^ k * (f / 10 ^ k) = mul_comm (f / 10 ^ k) (10 ^ k) in
        ap (λ x. digits_value_after 10 x ds * 10 ^ (suc k - suc (length ds))) q ∙ ap (λ i. digits_value_after 10 (f / 10 ^ k) ds * 10 ^ i) e
        ∙ ap (λ x. x * 10 ^ (k - length ds)) (after_value (f / 10 ^ k) ds) ∙ spread (f / 10 ^ k) (digits_value 10 ds) (10 ^ length ds) (10 ^ (k - length ds))
        ∙ ap (λ p. f / 10 ^ k * p + digits_value 10 ds * 10 ^ (k - length ds)) (powers (length ds) k short) ∙ omega arith

-- ---- no text is shorter

mod_times : (d q p : ℕ) → 0 < q → 0 < p → d * p % (q * p) ≡ d % q * p
mod_times d q p hq hp =
    let split : d * p ≡ d / q * (q * p) + d % q * p = ap (λ x. x * p) (sym (div-add-mod' d q)) ∙ spread (d / q) (d % q) q p in
    ap (λ x. x % (q * p)) split ∙ mul-add-mod_self_right (d / q) (q * p) (d % q * p) ∙ mod-eq_of_lt (mul-lt-mul_of_pos_right (mod-lt d hq) hp)

pub ten_power : (k : ℕ) → 0 < 10 ^ k
ten_power k = one-le-pow k 10 (omega arith)

-- digits that come to the same need no fewer places
part_shortest : (k j d f : ℕ) → j ≤ k → f < 10 ^ k → f ≡ d * 10 ^ (k - j) → length (part_digits k f) ≤ j
part_shortest zero j d f h below is = omega arith
part_shortest (suc k) zero d f h below is = none_left d is
  where
    none_left : (d : ℕ) → f ≡ d * 10 ^ (suc k - 0) → length (part_digits (suc k) f) ≤ 0
    none_left zero is = ⊎_elim
        (λ none. subst (λ ds. length ds ≤ 0) (sym (ap (λ b. cond b [] ((48 + f / 10 ^ k) ∷ part_digits k (f % 10 ^ k))) none.0)) (omega arith))
        (λ some. absurd (let z : 0 * 10 ^ (suc k - 0) ≡ 0 = zero_times (10 ^ (suc k - 0)) 0 refl in some.1 (is ∙ z)))
        (eqb_tells f 0)
    none_left (suc d) is =
        absurd (let e : suc k - 0 ≡ suc k = omega arith in let more : suc d * 10 ^ (suc k - 0) ≡ d * 10 ^ (suc k - 0) + 10 ^ (suc k - 0) = suc_times d (10 ^ (suc k - 0)) in
        let same : 10 ^ (suc k - 0) ≡ 10 ^ suc k = ap (λ i. 10 ^ i) e in omega arith)
      where
        suc_times : (a b : ℕ) → suc a * b ≡ a * b + b
        suc_times a b = omega arith
part_shortest (suc k) (suc j) d f h below is = ⊎_elim
    (λ none. subst (λ ds. length ds ≤ suc j) (sym (ap (λ b. cond b [] ((48 + f / 10 ^ k) ∷ part_digits k (f % 10 ^ k))) none.0)) (omega arith))
    (λ some. subst (λ ds. length ds ≤ suc j) (sym (part_step k f some.1)) (let r = part_shortest k j (d % 10 ^ j) (f % 10 ^ k) (omega arith) (mod-lt f (ten_power k)) rest in omega arith))
    (eqb_tells f 0)
  where
    jk : j ≤ k
    jk = omega arith

    rest : f % 10 ^ k ≡ d % 10 ^ j * 10 ^ (k - j)
    rest =
        let e : suc k - suc j ≡ k - j = omega arith in
        ap (λ x. x % 10 ^ k) (is ∙ ap (λ i. d * 10 ^ i) e) ∙ ap (λ m. d * 10 ^ (k - j) % m) (sym (powers j k jk)) ∙ mod_times d (10 ^ j) (10 ^ (k - j)) (ten_power j) (ten_power (k - j))

dots : (xs ys : List ℕ) → length xs ≤ length ys → length (after_dot xs) ≤ length (after_dot ys)
dots [] ys h = omega arith
dots (x ∷ xs) [] h = absurd (omega arith)
dots (x ∷ xs) (y ∷ ys) h = omega arith

-- ---- the texts

module _ (n : ℕ) (small : n < 10 ^ 19) where
  whole_small : n / 1000000 < 10 ^ 13
  whole_small = (div-lt_iff_lt-mul (omega arith)).1 (omega arith)

  size_spells : IsSize (size_text n) n
  size_spells =
      let whole = decimal_is_IsNumeral (n / 1000000) (let k = whole_small in omega arith) in
      let below : n % 1000000 < 10 ^ 6 = mod-lt n (omega arith) in
      record {
        whole = decimal (n / 1000000);
        after = after_dot (part_digits 6 (n % 1000000));
        millionths = n % 1000000;
        written = refl;
        digits = whole.0;
        rest = record { part = part_digits 6 (n % 1000000); written = refl; digits = part_all 6 (n % 1000000) below; short = part_length 6 (n % 1000000); value = sym (part_value 6 (n % 1000000) below) };
        value = sym (ap (λ w. w * 1000000 + n % 1000000) whole.1 ∙ div-add-mod' n 1000000);
      }

  size_shortest : (text : List ℕ) → IsSize text n → length (size_text n) ≤ length text
  size_shortest text s =
      let below : s.millionths < 1000000 = part_below s.after s.millionths s.rest in
      let value = s.value in
      let whole : n / 1000000 ≡ digits_value 10 s.whole = omega arith in
      let part : n % 1000000 ≡ s.millionths = omega arith in
      let front : length (decimal (n / 1000000)) ≤ length s.whole =
      length-decimal-le (length s.whole) (n / 1000000) s.digits.0 (subst (λ w. w < 10 ^ length s.whole) (sym whole) (digits_value-lt 10 s.whole s.digits.1)) (let k = whole_small in omega arith) in
      let back : length (part_digits 6 (n % 1000000)) ≤ length s.rest.part =
      part_shortest 6 (length s.rest.part) (digits_value 10 s.rest.part) (n % 1000000) s.rest.short (mod-lt n (omega arith)) (part ∙ s.rest.value) in
      let ends : length (after_dot (part_digits 6 (n % 1000000))) ≤ length (after_dot s.rest.part) = dots (part_digits 6 (n % 1000000)) s.rest.part back in
      let own : length (size_text n) ≡ length (decimal (n / 1000000)) + length (after_dot (part_digits 6 (n % 1000000))) = length-append (decimal (n / 1000000)) (after_dot (part_digits 6 (n % 1000000))) in
      let other : length text ≡ length s.whole + length s.after = ap length s.written ∙ length-append s.whole s.after in
      let after : length s.after ≡ length (after_dot s.rest.part) = ap length s.rest.written in
      omega arith

pub dec_spells : (z : ℤ) → IsDecimal z → Spells (dec_text z) z
dec_spells (pos c) h = spells_plain (size_text c) c (size_spells c h)
dec_spells (negsuc c) h = spells_minus (45 ∷ size_text (suc c)) (suc c) (omega arith) refl (size_spells (suc c) h)

pub dec_shortest : (z : ℤ) → IsDecimal z → (text : List ℕ) → Spells text z → length (dec_text z) ≤ length text
dec_shortest (pos c) h text s = by_sign s.minus s.body s.size s.written s.rest s.value
  where
    by_sign : (minus : Bool) (body : List ℕ) (size : ℕ) → text ≡ sign minus ++ body → IsSize body size → pos c ≡ signed minus size → length (size_text c) ≤ length text
    by_sign false body size e r v = size_shortest c h text (subst (λ k. IsSize text k) (sym (ap unsigned_abs v)) (subst (λ t. IsSize t size) (sym e) r))
    by_sign true body size e r v =
        let same : c ≡ size = ap unsigned_abs v ∙ size_of_signed true size in
        let short = size_shortest c h body (subst (λ k. IsSize body k) (sym same) r) in
        let long : length text ≡ suc (length body) = ap length e in
        omega arith
dec_shortest (negsuc c) h text s = by_sign s.minus s.body s.size s.written s.rest s.value
  where
    by_sign : (minus : Bool) (body : List ℕ) (size : ℕ) → text ≡ sign minus ++ body → IsSize body size → negsuc c ≡ signed minus size → length (45 ∷ size_text (suc c)) ≤ length text
    by_sign false body size e r v = absurd (omega (arith, ints))
    by_sign true body size e r v =
        let same : suc c ≡ size = ap unsigned_abs v ∙ size_of_signed true size in
        let short = size_shortest (suc c) h body (subst (λ k. IsSize body k) (sym same) r) in
        let long : length text ≡ suc (length body) = ap length e in
        omega arith

-- the length of what was written
pub taken_length : (r : ℕ) (xs text : List ℕ) → r ≤ length xs → take r xs ≡ text → r ≡ length text
taken_length r xs text h e = sym (length-take-le r xs h) ∙ ap length e
