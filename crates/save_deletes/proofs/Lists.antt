-- What is left of a list.
use Rattle.std.proofs.Common.{◌≡◌, ℕ, zero, suc, ◌+◌, ◌<◌, ◌≤◌, refl, List, [], ◌∷◌, length, drop, get_or, sym, ap, ◌∙◌, arith, add-one}

-- what is left of a list begins with what stands there
pub here : {A : Type 0} (i : ℕ) (xs : List A) (x : A) → i < length xs → x ≡ get_or xs i x → drop i xs ≡ x ∷ drop (i + 1) xs
here i xs x lt e = go i xs x lt e ∙ ap (λ n. x ∷ drop n xs) (sym (add-one i)) where
  go : {A : Type 0} (i : ℕ) (xs : List A) (x : A) → i < length xs → x ≡ get_or xs i x → drop i xs ≡ x ∷ drop (suc i) xs
  go i [] x lt e = absurd (omega arith)
  go zero (y ∷ xs) x lt e = ap (λ z. z ∷ xs) (sym e)
  go (suc i) (y ∷ xs) x lt e = go i xs x (omega arith) e

-- nothing is left behind the end
pub past : {A : Type 0} (i : ℕ) (xs : List A) → length xs ≤ i → drop i xs ≡ []
past zero [] le = refl
past (suc i) [] le = refl
past zero (x ∷ xs) le = absurd (omega arith)
past (suc i) (x ∷ xs) le = past i xs (omega arith)

-- whatever stands for what isn't there
pub itself : {A : Type 0} (i : ℕ) (xs : List A) (d : A) → i < length xs → get_or xs i d ≡ get_or xs i (get_or xs i d)
itself i [] d lt = absurd (omega arith)
itself zero (x ∷ xs) d lt = refl
itself (suc i) (x ∷ xs) d lt = go i xs d (get_or xs i d) (omega arith) where
  go : {A : Type 0} (i : ℕ) (xs : List A) (d e : A) → i < length xs → get_or xs i d ≡ get_or xs i e
  go i [] d e lt = absurd (omega arith)
  go zero (x ∷ xs) d e lt = refl
  go (suc i) (x ∷ xs) d e lt = go i xs d e (omega arith)
