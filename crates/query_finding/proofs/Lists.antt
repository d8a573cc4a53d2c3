-- What is left of a list, of its images, and of what passes a test.
use Rattle.std.proofs.Common.{◌≡◌, ℕ, zero, suc, ◌+◌, ◌<◌, ◌≤◌, refl, Bool, true, false, cond, List, [], ◌∷◌, ◌++◌, append_assoc, map, length, drop, get_or, sym, ap, ◌∙◌, arith, add-one}
use Rattle.std.specs.Prelude.{◌&&◌, filter}

-- what is left of a list begins with what stands there
pub here : {A : Type 0} (i : ℕ) (xs : List A) (x : A) → i < length xs → x ≡ get_or xs i x → drop i xs ≡ x ∷ drop (i + 1) xs
here i xs x lt e = go i xs x lt e ∙ ap (λ n. x ∷ drop n xs) (sym (add-one i)) where
  go : {A : Type 0} (i : ℕ) (xs : List A) (x : A) → i < length xs → x ≡ get_or xs i x → drop i xs ≡ x ∷ drop (suc i) xs
  go i [] x lt e = absurd (omega arith)
  go zero (y ∷ xs) x lt e = ap (λ z. z ∷ xs) (sym e)
  go (suc i) (y ∷ xs) x lt e = go i xs x (omega arith) e

-- nothing is left behind the end
pub past : {A : Type 0} (i : ℕ) (xs : List A) → length xs ≤ i → drop i xs ≡ []
past zero [] le = refl
past (suc i) [] le = refl
past zero (x ∷ xs) le = absurd (omega arith)
past (suc i) (x ∷ xs) le = past i xs (omega arith)

-- one image more
pub map_more : {A B : Type 0} (f : A → B) (xs : List A) (i : ℕ) (x : A) (old new whole : List B) (y : B) → i < length xs → x ≡ get_or xs i x → y ≡ f x → new ≡ old ++ y ∷ [] →
    old ++ map f (drop i xs) ≡ whole → new ++ map f (drop (i + 1) xs) ≡ whole
map_more f xs i x old new whole y lt is e n h =
    ap (λ ys. ys ++ map f (drop (i + 1) xs)) n ∙ append_assoc old (y ∷ []) (map f (drop (i + 1) xs)) ∙ ap (λ z. old ++ z ∷ map f (drop (i + 1) xs)) e ∙ ap (λ ys. old ++ map f ys) (sym (here i xs x lt is)) ∙ h

-- what passes one test and then another passes both
pub filter_filter : {A : Type 0} (p q : A → Bool) (xs : List A) → filter p (filter q xs) ≡ filter (λ (x : A). q x && p x) xs
filter_filter {A} p q [] = refl
filter_filter {A} p q (x ∷ xs) = by (q x) (filter_filter p q xs) where
  by : (b : Bool) → filter p (filter q xs) ≡ filter (λ (x : A). q x && p x) xs → filter p (cond b (x ∷ filter q xs) (filter q xs)) ≡ cond (b && p x) (x ∷ filter (λ (x : A). q x && p x) xs) (filter (λ (x : A). q x && p x) xs)
  by true h = ap (λ (more : List A). cond (p x) (x ∷ more) more) h
  by false h = h

-- a test that everything passes leaves all
pub filter_all : {A : Type 0} (xs : List A) → filter (λ (x : A). true) xs ≡ xs
filter_all [] = refl
filter_all (x ∷ xs) = ap (λ ys. x ∷ ys) (filter_all xs)
