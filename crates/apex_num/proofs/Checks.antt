-- How great the number of five characters' capitals may be.
use Rattle.std.proofs.Common.{arith, ◌≡◌, ◌+◌, ◌*◌, ◌^◌, ◌<◌, ◌≤◌, ◌≢◌, ◌++◌, ℕ, zero, suc, inl, inr, refl, ◌∙◌, take, length-append, List, [], ◌∷◌, length, drop, length-drop, ap, sym, subst}
use Rattle.std.proofs.Math.Nat.{one-le-pow, pow-suc}
use Rattle.std.proofs.Math.Seq.{take-append_seam, drop-append_seam}
use Rattle.apex_num.specs.Ids.{IsId, Names, capital, capitals, checks, long_id}

below : (n : ℕ) (cs : List ℕ) → length cs ≤ n → capitals cs < 2 ^ n
below zero [] h = let z : capitals [] ≡ 0 = refl in omega arith
below zero (c ∷ cs) h = absurd (omega arith)
below (suc n) [] h = let z : capitals [] ≡ 0 = refl in let o = one-le-pow (suc n) 2 (omega arith) in omega arith
below (suc n) (c ∷ cs) h =
    let b = below n cs (omega arith) in
    let k = bit c in
    let step : capitals (c ∷ cs) ≡ capital c + 2 * capitals cs = refl in
    let power : 2 ^ suc n ≡ 2 ^ n * 2 = pow-suc 2 n in
    omega arith
  where
    bit : (c : ℕ) → capital c ≤ 1
    bit c = grind arith

pub small : (five : List ℕ) (i n : ℕ) → length five ≡ 5 → n ≡ capitals (drop i five) → n < 32
small five i n len e = rw e (below 5 (drop i five) (rw (length-drop i five) (omega arith)))

-- ---- the two lengths

long_length : (id : List ℕ) → IsId id → length (long_id id) ≡ 18
long_length id h = let n = h.0 in length-append id (checks id) ∙ omega arith

pub not_short : (text : List ℕ) → length text ≡ 15 → (IsId text → ⊥) → (id : List ℕ) → Names text id → ⊥
not_short text len none id (h, inl e) = none (subst IsId (sym e) h)
not_short text len none id (h, inr e) = let l = long_length id h in let m = ap length e in omega arith

pub not_long : (text : List ℕ) → length text ≡ 18 → ((id : List ℕ) → IsId id → text ≡ long_id id → ⊥) → (id : List ℕ) → Names text id → ⊥
not_long text len none id (h, inl e) = let l = h.0 in let m = ap length e in omega arith
not_long text len none id (h, inr e) = none id h e

pub neither : (text : List ℕ) → length text ≢ 15 → length text ≢ 18 → (id : List ℕ) → Names text id → ⊥
neither text a b id (h, inl e) = a (ap length e ∙ h.0)
neither text a b id (h, inr e) = b (ap length e ∙ long_length id h)

pub parts_of_long : (text front rest id : List ℕ) → front ≡ take 15 text → rest ≡ drop 15 text → IsId id → text ≡ long_id id → (front ≡ id) × (rest ≡ checks id)
parts_of_long text front rest id f r h e =
    let l : 15 ≡ length id = sym h.0 in
    (f ∙ ap (take 15) e ∙ ap (λ n. take n (long_id id)) l ∙ take-append_seam id (checks id), r ∙ ap (drop 15) e ∙ ap (λ n. drop n (long_id id)) l ∙ drop-append_seam id (checks id))

pub joined : (a b id : List ℕ) → a ≡ id → b ≡ checks id → a ++ b ≡ long_id id
joined a b id f g = rw f (rw g refl)
