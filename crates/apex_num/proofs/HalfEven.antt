-- Half-even rounding from a quotient and its rest, and that there is one rounded number.
use Rattle.std.proofs.Common.{◌≡◌, ℕ, zero, suc, ◌+◌, ◌-◌, ◌*◌, ◌/◌, ◌%◌, ◌^◌, ◌<◌, ◌≤◌, inl, inr, ⊎_elim, refl, sym, ap, subst, to_z, of_z, Result, Ok, Err, IfOk, ◌∙◌, arith, ℤ, pos, negsuc, ◌+ℤ◌, ◌-ℤ◌, ◌*ℤ◌, ◌<ℤ◌, unsigned_abs}
use Rattle.std.proofs.Math.IntN.{neg_ℤ, neg_ℤ-neg_ℤ, suc_ℤ, pos-*ℤ-pos, negsuc-*ℤ-pos, suc_ℤ-*ℤ, +ℤ-suc_ℤ, +ℤ_one, +ℤ_idr, +ℤ_idl, +ℤ_assoc, zero-*ℤ, *ℤ_comm}
use Rattle.std.proofs.Math.Nat.{mod-add-div, mod-lt, mul_comm}
use Rattle.std.specs.Int.{int_div_euclid, int_rem_euclid, w128}
use Rattle.std.proofs.lemmas.Int.{ints, unsigned_abs-mul, to_z-of_z, fits_signed_from_abs}
use Rattle.std.proofs.lemmas.Nat.{mul-lt}
use Rattle.apex_num.specs.Decimals.{IsHalfEven, Answers, Rounds, distance}
use Rattle.apex_num.specs.declared.dec.NumFault.{NumFault}
use Rattle.apex_num.specs.Rounding.{Rises, Stays}

pub parts : (a e : ℕ) → a ≡ a / e * e + a % e
parts a e = let k = mod-add-div a e in let c : e * (a / e) ≡ a / e * e = mul_comm e (a / e) in omega arith

euclid_pos : (a e : ℕ) → pos a ≡ pos (a / e) *ℤ pos e +ℤ pos (a % e)
euclid_pos a e =
    let split : a ≡ a / e * e + a % e = parts a e in
    let product : pos (a / e) *ℤ pos e ≡ pos (a / e * e) = pos-*ℤ-pos (a / e) e in
    omega (arith, ints)

euclid_neg : (a e : ℕ) → 0 < e → negsuc a ≡ negsuc (a / e) *ℤ pos e +ℤ pos (e - 1 - a % e)
euclid_neg a e h =
    let split : a ≡ a / e * e + a % e = parts a e in
    let below : a % e < e = mod-lt a h in
    let product : negsuc (a / e) *ℤ pos e ≡ neg_ℤ (pos (suc (a / e) * e)) = negsuc-*ℤ-pos (a / e) e in
    let more : suc (a / e) * e ≡ a / e * e + e = omega arith in
    rw product (rw more (omega (arith, ints)))

-- a number is its quotient times the divisor, and the rest
pub euclid : (n : ℤ) (e : ℕ) → 0 < e → n ≡ int_div_euclid n (pos e) *ℤ pos e +ℤ int_rem_euclid n (pos e)
euclid (pos a) e h = euclid_pos a e
euclid (negsuc a) e h = euclid_neg a e h

distance_below : (n b d : ℤ) (r : ℕ) → n ≡ b *ℤ d +ℤ pos r → distance n d b ≡ r
distance_below n b d r e = omega (arith, ints)

next_times : (b d : ℤ) → (b +ℤ pos 1) *ℤ d ≡ b *ℤ d +ℤ d
next_times b d = ap (λ z. z *ℤ d) (+ℤ_one b) ∙ suc_ℤ-*ℤ b d

distance_above : (n b d : ℤ) (r e : ℕ) → d ≡ pos e → n ≡ b *ℤ d +ℤ pos r → r < e → distance n d (b +ℤ pos 1) ≡ e - r
distance_above n b d r e is f h =
    let next : (b +ℤ pos 1) *ℤ d ≡ b *ℤ d +ℤ d = next_times b d in
    omega (arith, ints)

odd_then_even : (b : ℤ) → unsigned_abs b % 2 ≡ 1 → unsigned_abs (b +ℤ pos 1) % 2 ≡ 0
odd_then_even b h = omega (arith, ints)

pub stays : (n b d : ℤ) (r e : ℕ) → d ≡ pos e → n ≡ b *ℤ d +ℤ pos r → Stays b r e → IsHalfEven n d b
stays n b d r e is f s =
    let far : distance n d b ≡ r = distance_below n b d r f in
    let size : unsigned_abs d ≡ e = ap unsigned_abs is in
    rw far (rw size s)

pub rises : (n b d : ℤ) (r e : ℕ) → d ≡ pos e → n ≡ b *ℤ d +ℤ pos r → r < e → Rises b r e → IsHalfEven n d (b +ℤ pos 1)
rises n b d r e is f h s =
    let far : distance n d (b +ℤ pos 1) ≡ e - r = distance_above n b d r e is f h in
    let size : unsigned_abs d ≡ e = ap unsigned_abs is in
    rw far (rw size (⊎_elim (λ more. inl (omega arith)) (λ half. inr (omega arith, odd_then_even b half.1)) s))

size_of_rest : (n : ℤ) (e : ℕ) → int_rem_euclid n (pos e) ≡ pos (unsigned_abs (int_rem_euclid n (pos e)))
size_of_rest (pos a) e = refl
size_of_rest (negsuc a) e = refl

is_pos : (d : ℤ) → pos 0 <ℤ d → d ≡ pos (unsigned_abs d)
is_pos d h = omega (arith, ints)

split : (n d b r : ℤ) → pos 0 <ℤ d → b ≡ int_div_euclid n d → r ≡ int_rem_euclid n d → n ≡ b *ℤ d +ℤ pos (unsigned_abs r)
split n (negsuc e) b r h eb er = absurd (omega (arith, ints))
split n (pos e) b r h eb er = rw eb (rw er (rw (sym (size_of_rest n e)) (euclid n e (omega (arith, ints)))))

pub lower : (n d b r : ℤ) → pos 0 <ℤ d → b ≡ int_div_euclid n d → r ≡ int_rem_euclid n d → Stays b (unsigned_abs r) (unsigned_abs d) → IsHalfEven n d b
lower n d b r h eb er s = stays n b d (unsigned_abs r) (unsigned_abs d) (is_pos d h) (split n d b r h eb er) s

pub upper : (n d b r : ℤ) → pos 0 <ℤ d → b ≡ int_div_euclid n d → r ≡ int_rem_euclid n d → unsigned_abs r < unsigned_abs d → Rises b (unsigned_abs r) (unsigned_abs d) → IsHalfEven n d (b +ℤ pos 1)
upper n d b r h eb er small s = rises n b d (unsigned_abs r) (unsigned_abs d) (is_pos d h) (split n d b r h eb er) small s

-- ---- one rounded number

times_below : (t e : ℕ) → t * e < e → t ≡ 0
times_below zero e h = refl
times_below (suc t) e h = absurd (let m : suc t * e ≡ t * e + e = omega arith in omega arith)

times_at_most : (t e : ℕ) → 0 < e → t * e ≤ e → t ≤ 1
times_at_most zero e p h = omega arith
times_at_most (suc zero) e p h = omega arith
times_at_most (suc (suc t)) e p h = absurd (let m : suc (suc t) * e ≡ t * e + e + e = omega arith in omega arith)

plus_times : (p d : ℤ) (n : ℕ) → (p +ℤ pos n) *ℤ d ≡ p *ℤ d +ℤ pos n *ℤ d
plus_times p d zero =
    let none : pos 0 *ℤ d ≡ pos 0 = zero-*ℤ d in
    let same : p +ℤ pos 0 ≡ p = +ℤ_idr p in
    rw same (rw none (sym (+ℤ_idr (p *ℤ d))))
plus_times p d (suc n) =
    let back : p +ℤ pos (suc n) ≡ suc_ℤ (p +ℤ pos n) = +ℤ-suc_ℤ p (pos n) in
    let left : suc_ℤ (p +ℤ pos n) *ℤ d ≡ (p +ℤ pos n) *ℤ d +ℤ d = suc_ℤ-*ℤ (p +ℤ pos n) d in
    let right : pos (suc n) *ℤ d ≡ pos n *ℤ d +ℤ d = suc_ℤ-*ℤ (pos n) d in
    let rest : (p +ℤ pos n) *ℤ d ≡ p *ℤ d +ℤ pos n *ℤ d = plus_times p d n in
    ap (λ z. z *ℤ d) back ∙ left ∙ (rw rest (rw right (+ℤ_assoc (p *ℤ d) (pos n *ℤ d) d)))

less_times : (p d : ℤ) (n : ℕ) → (p -ℤ pos n) *ℤ d ≡ p *ℤ d -ℤ pos n *ℤ d
less_times p d n =
    let more : ((p -ℤ pos n) +ℤ pos n) *ℤ d ≡ (p -ℤ pos n) *ℤ d +ℤ pos n *ℤ d = plus_times (p -ℤ pos n) d n in
    let same : (p -ℤ pos n) +ℤ pos n ≡ p = omega (arith, ints) in
    let whole : p *ℤ d ≡ (p -ℤ pos n) *ℤ d +ℤ pos n *ℤ d = rw same at more in
    omega (arith, ints)

minus_times : (p q d : ℤ) → (p -ℤ q) *ℤ d ≡ p *ℤ d -ℤ q *ℤ d
minus_times p (pos n) d = less_times p d n
minus_times p (negsuc n) d =
    let turn : p -ℤ negsuc n ≡ p +ℤ pos (suc n) = omega (arith, ints) in
    let more : (p +ℤ pos (suc n)) *ℤ d ≡ p *ℤ d +ℤ pos (suc n) *ℤ d = plus_times p d (suc n) in
    let none : (pos 0 -ℤ pos (suc n)) *ℤ d ≡ pos 0 *ℤ d -ℤ pos (suc n) *ℤ d = less_times (pos 0) d (suc n) in
    let zeros : pos 0 *ℤ d ≡ pos 0 = zero-*ℤ d in
    let is : pos 0 -ℤ pos (suc n) ≡ negsuc n = omega (arith, ints) in
    let back : negsuc n *ℤ d ≡ pos 0 *ℤ d -ℤ pos (suc n) *ℤ d = rw is at none in
    ap (λ z. z *ℤ d) turn ∙ more ∙ omega (arith, ints)

turned_times : (q d : ℤ) → q *ℤ neg_ℤ d ≡ neg_ℤ (q *ℤ d)
turned_times q d =
    let is : pos 0 -ℤ d ≡ neg_ℤ d = omega (arith, ints) in
    let less : (pos 0 -ℤ d) *ℤ q ≡ pos 0 *ℤ q -ℤ d *ℤ q = minus_times (pos 0) d q in
    let zeros : pos 0 *ℤ q ≡ pos 0 = zero-*ℤ q in
    let swapped : d *ℤ q ≡ q *ℤ d = *ℤ_comm d q in
    let whole : neg_ℤ d *ℤ q ≡ pos 0 *ℤ q -ℤ d *ℤ q = rw is at less in
    *ℤ_comm q (neg_ℤ d) ∙ omega (arith, ints)

-- two candidates are as far apart, times the divisor, as their distances come to at the most
apart : (n d p q : ℤ) → unsigned_abs (p -ℤ q) * unsigned_abs d ≤ distance n d p + distance n d q
apart n d p q =
    let split : (p -ℤ q) *ℤ d ≡ p *ℤ d -ℤ q *ℤ d = minus_times p q d in
    let size : unsigned_abs ((p -ℤ q) *ℤ d) ≡ unsigned_abs (p -ℤ q) * unsigned_abs d = unsigned_abs-mul (p -ℤ q) d in
    omega (arith, ints)

both_even : (p q : ℤ) → unsigned_abs (p -ℤ q) ≤ 1 → unsigned_abs p % 2 ≡ 0 → unsigned_abs q % 2 ≡ 0 → p ≡ q
both_even p q near a b = omega (arith, ints)

same : (p q : ℤ) → unsigned_abs (p -ℤ q) ≡ 0 → p ≡ q
same p q h = omega (arith, ints)

pub one_half_even : (n d p q : ℤ) → 0 < unsigned_abs d → IsHalfEven n d p → IsHalfEven n d q → p ≡ q
one_half_even n d p q h (inl a) (inl b) = let far = apart n d p q in same p q (times_below (unsigned_abs (p -ℤ q)) (unsigned_abs d) (omega arith))
one_half_even n d p q h (inl a) (inr b) = let far = apart n d p q in let bb = b.0 in same p q (times_below (unsigned_abs (p -ℤ q)) (unsigned_abs d) (omega arith))
one_half_even n d p q h (inr a) (inl b) = let far = apart n d p q in let aa = a.0 in same p q (times_below (unsigned_abs (p -ℤ q)) (unsigned_abs d) (omega arith))
one_half_even n d p q h (inr a) (inr b) = let far = apart n d p q in let aa = a.0 in let bb = b.0 in both_even p q (times_at_most (unsigned_abs (p -ℤ q)) (unsigned_abs d) h (omega arith)) a.1 b.1

far_apart : (t e x y : ℕ) → 0 < t → t * e ≤ x + y → 2 * x ≤ e → x ≤ y
far_apart zero e x y h far half = absurd (omega arith)
far_apart (suc t) e x y h far half = let m : suc t * e ≡ t * e + e = omega arith in omega arith

at_most_half : (n d q : ℤ) → IsHalfEven n d q → 2 * distance n d q ≤ unsigned_abs d
at_most_half n d q (inl h) = omega arith
at_most_half n d q (inr h) = let e = h.0 in omega arith

-- no whole number is nearer
pub nearest : (n d q m : ℤ) → IsHalfEven n d q → distance n d q ≤ distance n d m
nearest n d q m s =
    let half = at_most_half n d q s in
    let far = apart n d q m in
    by (unsigned_abs (q -ℤ m)) refl far half
  where
    by : (t : ℕ) → unsigned_abs (q -ℤ m) ≡ t → unsigned_abs (q -ℤ m) * unsigned_abs d ≤ distance n d q + distance n d m → 2 * distance n d q ≤ unsigned_abs d → distance n d q ≤ distance n d m
    by zero e far half = subst (λ z. distance n d q ≤ distance n d z) (same q m e) (omega arith)
    by (suc t) e far half = far_apart (suc t) (unsigned_abs d) (distance n d q) (distance n d m) (omega arith) (subst (λ k. k * unsigned_abs d ≤ distance n d q + distance n d m) e far) half

-- with both signs turned
pub turned : (n d q : ℤ) → IsHalfEven (neg_ℤ n) (neg_ℤ d) q → IsHalfEven n d q
turned n d q s =
    let product : q *ℤ neg_ℤ d ≡ neg_ℤ (q *ℤ d) = turned_times q d in
    let far : distance (neg_ℤ n) (neg_ℤ d) q ≡ distance n d q = omega (arith, ints) in
    let size : unsigned_abs (neg_ℤ d) ≡ unsigned_abs d = omega (arith, ints) in
    rw (sym far) (rw (sym size) s)

-- ---- for the calls

pub answers_only : (n d h : ℤ) (r : Result ℤ NumFault) → 0 < unsigned_abs d → IsHalfEven n d h → Answers h r → (q : ℤ) → IsHalfEven n d q → Answers q r
answers_only n d h r some is a q also = subst (λ z. Answers z r) (one_half_even n d h q some is also) a

pub whole : (z : ℤ) → unsigned_abs z < 2 ^ 127 → to_z w128 (of_z w128 z) ≡ z
whole z h = to_z-of_z w128 z (fits_signed_from_abs w128 z h)

pub product_size : (a b : ℤ) → unsigned_abs a < 10 ^ 19 → unsigned_abs b < 10 ^ 19 → unsigned_abs (a *ℤ b) < 10 ^ 38
product_size a b ha hb =
    let size : unsigned_abs (a *ℤ b) ≡ unsigned_abs a * unsigned_abs b = unsigned_abs-mul a b in
    rw size (mul-lt (unsigned_abs a) (unsigned_abs b) (10 ^ 19) (10 ^ 19) ha hb)

pub turned_rounds : (n d : ℤ) (r : Result ℤ NumFault) → Rounds (neg_ℤ n) (neg_ℤ d) r → Rounds n d r
turned_rounds n d r s = (s.0, turned n d s.0 s.1, s.2)

pub turned_only : (n d : ℤ) (r : Result ℤ NumFault) → ((q : ℤ) → IsHalfEven (neg_ℤ n) (neg_ℤ d) q → Answers q r) → (q : ℤ) → IsHalfEven n d q → Answers q r
turned_only n d r s q is = s q (turned (neg_ℤ n) (neg_ℤ d) q (subst (λ m. IsHalfEven m (neg_ℤ (neg_ℤ d)) q) (sym (neg_ℤ-neg_ℤ n)) (subst (λ e. IsHalfEven n e q) (sym (neg_ℤ-neg_ℤ d)) is)))

pub minus : (z : ℤ) → unsigned_abs z < 2 ^ 127 → to_z w128 (of_z w128 (pos 0 -ℤ z)) ≡ neg_ℤ z
minus z h =
    let size : unsigned_abs (pos 0 -ℤ z) ≡ unsigned_abs z = omega (arith, ints) in
    whole (pos 0 -ℤ z) (omega arith) ∙ +ℤ_idl (neg_ℤ z)

pub rounds_nearest : (n d : ℤ) (r : Result ℤ NumFault) → Rounds n d r → IfOk r (λ q. (m : ℤ) → distance n d q ≤ distance n d m)
rounds_nearest n d (Ok q) s = λ m. subst (λ z. distance n d z ≤ distance n d m) (sym s.2.0) (nearest n d s.0 m s.1)
rounds_nearest n d (Err f) s = tt
