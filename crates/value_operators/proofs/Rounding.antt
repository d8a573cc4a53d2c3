-- The rounded quotient is half-even.
use Rattle.std.proofs.Common.{arith, ◌≡◌, ◌≢◌, ℕ, zero, suc, ◌+◌, ◌-◌, ◌*◌, ◌/◌, ◌%◌, ◌<◌, ◌⊎◌, Bool, true, false, cond, inl, inr, ⊎_elim, ℤ, pos, negsuc, ◌*ℤ◌, neg_ℤ, unsigned_abs, refl, sym, ap, subst, ◌∙◌, suc-mul}
use Rattle.std.proofs.Math.IntN.{pos-*ℤ-pos, negsuc-*ℤ-pos}
use Rattle.std.proofs.Math.Nat.{mod-add-div, mod-lt, mul_comm}
use Rattle.std.proofs.lemmas.Int.{ints}
use Rattle.apex_num.specs.Decimals.{IsHalfEven, distance}
use Rattle.apex_num.proofs.HalfEven.{turned}
use Rattle.number_methods.specs.Values.{goes_up, nearest_size, half_even}
use Rattle.value_operators.specs.Operators.{rounded}

-- what the two numbers round n / d are
abbrev Up : ℕ → ℕ → Type 0
Up n d = (d < 2 * (n % d)) ⊎ ((2 * (n % d) ≡ d) × (n / d % 2 ≡ 1))

abbrev Down : ℕ → ℕ → Type 0
Down n d = (2 * (n % d) < d) ⊎ ((2 * (n % d) ≡ d) × (n / d % 2 ≡ 0))

up_is : (n d : ℕ) → goes_up n d ≡ true → Up n d
up_is n d e = grind arith

down_is : (n d : ℕ) → goes_up n d ≡ false → Down n d
down_is n d e = grind arith

parts : (n d : ℕ) → n ≡ n / d * d + n % d
parts n d = let k = mod-add-div n d in let c : d * (n / d) ≡ n / d * d = mul_comm d (n / d) in omega arith

-- how far q is from n / d
far : (n d q k : ℕ) → (n ≡ q * d + k) ⊎ (q * d ≡ n + k) → distance (pos n) (pos d) (pos q) ≡ k
far n d q k h = let p = pos-*ℤ-pos q d in ⊎_elim (λ (below : n ≡ q * d + k). rw p (omega (arith, ints))) (λ (above : q * d ≡ n + k). rw p (omega (arith, ints))) h

far_low : (n d : ℕ) → distance (pos n) (pos d) (pos (n / d)) ≡ n % d
far_low n d = far n d (n / d) (n % d) (inl (parts n d))

far_high : (n d : ℕ) → 0 < d → distance (pos n) (pos d) (pos (n / d + 1)) ≡ d - n % d
far_high n d h =
    let p = parts n d in
    let m = mod-lt n h in
    let s : (n / d + 1) * d ≡ d + n / d * d = let k = suc-mul (n / d) d in let e : suc (n / d) ≡ n / d + 1 = omega arith in ap (λ x. x * d) (sym e) ∙ k ∙ omega arith in
    far n d (n / d + 1) (d - n % d) (inr (omega arith))

at : (n d : ℕ) (b : Bool) → 0 < d → goes_up n d ≡ b → IsHalfEven (pos n) (pos d) (pos (cond b (n / d + 1) (n / d)))
at n d true h e =
    let m = mod-lt n h in
    let f = far_high n d h in
    ⊎_elim (λ (more : d < 2 * (n % d)). inl (omega arith)) (λ (half : (2 * (n % d) ≡ d) × (n / d % 2 ≡ 1)). let a = half.0 in let o = half.1 in inr (omega arith, omega arith)) (up_is n d e)
at n d false h e =
    let f = far_low n d in
    ⊎_elim (λ (less : 2 * (n % d) < d). inl (omega arith)) (λ (half : (2 * (n % d) ≡ d) × (n / d % 2 ≡ 0)). let a = half.0 in let o = half.1 in inr (omega arith, omega arith)) (down_is n d e)

pos_half : (n d : ℕ) → 0 < d → IsHalfEven (pos n) (pos d) (pos (nearest_size n d))
pos_half n d h = at n d _ h refl

-- the same below 0
neg_times : (q d : ℕ) → neg_ℤ (pos q) *ℤ pos d ≡ neg_ℤ (pos (q * d))
neg_times zero d = let p = pos-*ℤ-pos 0 d in let z : 0 * d ≡ 0 = omega arith in p ∙ ap pos z ∙ ap (λ k. neg_ℤ (pos k)) (sym z)
neg_times (suc q) d = negsuc-*ℤ-pos q d

mirrored : (n q d : ℕ) → distance (neg_ℤ (pos n)) (pos d) (neg_ℤ (pos q)) ≡ distance (pos n) (pos d) (pos q)
mirrored n q d = let p = pos-*ℤ-pos q d in let m = neg_times q d in rw p (rw m (omega (arith, ints)))

below_zero : (n q d : ℕ) → IsHalfEven (pos n) (pos d) (pos q) → IsHalfEven (neg_ℤ (pos n)) (pos d) (neg_ℤ (pos q))
below_zero n q d h =
    let m = mirrored n q d in
    let s : unsigned_abs (neg_ℤ (pos q)) ≡ q = omega (arith, ints) in
    ⊎_elim (λ (less : 2 * distance (pos n) (pos d) (pos q) < d). inl (omega arith))
    (λ (half : (2 * distance (pos n) (pos d) (pos q) ≡ d) × (q % 2 ≡ 0)). let a = half.0 in let o = half.1 in inr (omega arith, ap (λ k. k % 2) s ∙ o)) h

half_even_is : (n : ℤ) (d : ℕ) → 0 < d → IsHalfEven n (pos d) (half_even n d)
half_even_is (pos n) d h = pos_half n d h
half_even_is (negsuc n) d h =
    let e : neg_ℤ (pos (n + 1)) ≡ negsuc n = omega (arith, ints) in
    subst (λ z. IsHalfEven z (pos d) (half_even (negsuc n) d)) e (below_zero (n + 1) (nearest_size (n + 1) d) d (pos_half (n + 1) d h))

-- ---- a divisor of either sign

positive : (d : ℕ) → pos d ≢ pos 0 → 0 < d
positive zero ne = absurd (ne refl)
positive (suc d) ne = omega arith

pub rounded_is : (n d : ℤ) → d ≢ pos 0 → IsHalfEven n d (rounded n d)
rounded_is n (pos d) ne = half_even_is n d (positive d ne)
rounded_is n (negsuc d) ne = turned n (negsuc d) (half_even (neg_ℤ n) (suc d)) (half_even_is (neg_ℤ n) (suc d) (omega arith))
