-- Lists of fields, by their places.
use Rattle.std.proofs.Common.{arith, ◌≡◌, ℕ, zero, suc, ◌+◌, ◌<◌, ◌≤◌, Bool, true, false, cond, List, [], ◌∷◌, ◌++◌, length, take, get_or, Option, None, Some, slice_get, refl, sym, ap, ◌∙◌, subst}
use Rattle.std.specs.Prelude.{◌||◌}
use Rattle.std.specs.List.{list_any, position_from}
use Rattle.std.proofs.lemmas.Option.{same_Some}

module _ {X : Type 0} where
  pub there : (xs : List X) (i : ℕ) (x : X) → i < length xs → x ≡ get_or xs i x → slice_get xs i ≡ Some x
  there [] i x lt at = absurd (omega arith)
  there (y ∷ xs) zero x lt at = ap Some (sym at)
  there (y ∷ xs) (suc i) x lt at = there xs i x (omega arith) at

  module _ (t : X → Bool) where
    -- none of those before it passes, and this one does
    first_from : (xs : List X) (i k : ℕ) (x : X) → i < length xs → x ≡ get_or xs i x → position_from t k (take i xs) ≡ None → t x ≡ true → position_from t k xs ≡ Some (k + i)
    first_from [] i k x lt at none h = absurd (omega arith)
    first_from (y ∷ xs) zero k x lt at none h =
        ap (λ z. cond (t z) (Some k) (position_from t (k + 1) xs)) (sym at) ∙ ap (λ b. cond b (Some k) (position_from t (k + 1) xs)) h ∙ ap Some (let z : k ≡ k + 0 = omega arith in z)
    first_from (y ∷ xs) (suc i) k x lt at none h = by (λ e. first_from xs i (k + 1) x (omega arith) at e h) (t y) none where
      by : (position_from t (k + 1) (take i xs) ≡ None → position_from t (k + 1) xs ≡ Some ((k + 1) + i)) → (b : Bool) → cond b (Some k) (position_from t (k + 1) (take i xs)) ≡ None → cond b (Some k) (position_from t (k + 1) xs) ≡ Some (k + suc i)
      by rest true e = absurd (cc)
      by rest false e = rest e ∙ ap Some (let z : (k + 1) + i ≡ k + suc i = omega arith in z)

    pub first_at : (xs : List X) (i : ℕ) (x : X) → i < length xs → x ≡ get_or xs i x → position_from t 0 (take i xs) ≡ None → t x ≡ true → position_from t 0 xs ≡ Some i
    first_at xs i x lt at none h = first_from xs i 0 x lt at none h ∙ ap Some (let z : 0 + i ≡ i = omega arith in z)

    none_from : (xs : List X) (i k : ℕ) (x : X) → i < length xs → x ≡ get_or xs i x → position_from t k (take i xs) ≡ None → t x ≡ false → position_from t k (take (suc i) xs) ≡ None
    none_from [] i k x lt at none h = absurd (omega arith)
    none_from (y ∷ xs) zero k x lt at none h = ap (λ z. cond (t z) (Some k) None) (sym at) ∙ ap (λ b. cond b (Some k) None) h
    none_from (y ∷ xs) (suc i) k x lt at none h = by (λ e. none_from xs i (k + 1) x (omega arith) at e h) (t y) none where
      by : (position_from t (k + 1) (take i xs) ≡ None → position_from t (k + 1) (take (suc i) xs) ≡ None) → (b : Bool) → cond b (Some k) (position_from t (k + 1) (take i xs)) ≡ None → cond b (Some k) (position_from t (k + 1) (take (suc i) xs)) ≡ None
      by rest true e = e
      by rest false e = rest e

    -- none of those before it passes, nor does this one
    pub none_more : (xs : List X) (i : ℕ) (x : X) → i < length xs → x ≡ get_or xs i x → position_from t 0 (take i xs) ≡ None → t x ≡ false → position_from t 0 (take (i + 1) xs) ≡ None
    none_more xs i x lt at none h =
        let next : suc i ≡ i + 1 = omega arith in
        subst (λ n. position_from t 0 (take n xs) ≡ None) next (none_from xs i 0 x lt at none h)

    -- the place that is found is one that passes
    pub record Found (xs : List X) (k n : ℕ) : Type 0 where
      pub i : ℕ
      pub x : X
      pub is : n ≡ k + i
      pub there : slice_get xs i ≡ Some x
      pub passes : t x ≡ true

    found_from : (xs : List X) (k n : ℕ) → position_from t k xs ≡ Some n → Found xs k n
    found_from [] k n e = absurd (cc)
    found_from (y ∷ xs) k n e = by (λ s. found_from xs (k + 1) n s) (t y) refl e where
      by : (position_from t (k + 1) xs ≡ Some n → Found xs (k + 1) n) → (b : Bool) → t y ≡ b → cond b (Some k) (position_from t (k + 1) xs) ≡ Some n → Found (y ∷ xs) k n
      by rest true h s = let same : k ≡ n = same_Some k n s in record { i = 0; x = y; is = omega arith; there = refl; passes = h }
      by rest false h s = let r = rest s in record { i = suc r.i; x = r.x; is = (let z = r.is in omega arith); there = r.there; passes = r.passes }

    pub found_passes : (xs : List X) (n : ℕ) → position_from t 0 xs ≡ Some n → (x : X) × (slice_get xs n ≡ Some x) × (t x ≡ true)
    found_passes xs n e = let r = found_from xs 0 n e in let same : n ≡ r.i = (let z = r.is in omega arith) in (r.x, ap (slice_get xs) same ∙ r.there, r.passes)

    pub any_at : (xs : List X) (i : ℕ) (x : X) → slice_get xs i ≡ Some x → t x ≡ true → list_any t xs ≡ true
    any_at [] i x e h = absurd (cc)
    any_at (y ∷ xs) zero x e h = let same : y ≡ x = same_Some y x e in ap (λ z. t z || list_any t xs) same ∙ ap (λ b. b || list_any t xs) h
    any_at (y ∷ xs) (suc i) x e h = later (t y) (any_at xs i x e h) where
      later : (b : Bool) → list_any t xs ≡ true → (b || list_any t xs) ≡ true
      later true r = refl
      later false r = r
