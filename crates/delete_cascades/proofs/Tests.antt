-- Tests joined with one another, and what is left of a list.
use Rattle.std.proofs.Common.{◌≡◌, ℕ, zero, suc, ◌+◌, ◌<◌, Bool, true, false, List, [], ◌∷◌, ◌++◌, length, drop, get_or, refl, sym, ap, ◌∙◌, arith, add-one}
use Rattle.std.specs.Prelude.{◌||◌, ◌&&◌}
use Rattle.std.specs.List.{list_any}

-- what is left of a list begins with what stands there
pub here : {A : Type 0} (i : ℕ) (xs : List A) (x : A) → i < length xs → x ≡ get_or xs i x → drop i xs ≡ x ∷ drop (i + 1) xs
here i xs x lt e = go i xs x lt e ∙ ap (λ n. x ∷ drop n xs) (sym (add-one i)) where
  go : {A : Type 0} (i : ℕ) (xs : List A) (x : A) → i < length xs → x ≡ get_or xs i x → drop i xs ≡ x ∷ drop (suc i) xs
  go i [] x lt e = absurd (omega arith)
  go zero (y ∷ xs) x lt e = ap (λ z. z ∷ xs) (sym e)
  go (suc i) (y ∷ xs) x lt e = go i xs x (omega arith) e

pub or_none : (a : Bool) → (a || false) ≡ a
or_none true = refl
or_none false = refl

pub or_more : (a b c : Bool) → ((a || b) || c) ≡ (a || (b || c))
or_more true b c = refl
or_more false b c = refl

-- two pairs of tests, by their first parts and their second parts
pub or_pairs : (a b c d : Bool) → ((a || b) || (c || d)) ≡ ((a || c) || (b || d))
or_pairs true b c d = refl
or_pairs false true true d = refl
or_pairs false true false d = refl
or_pairs false false c d = refl

pub and_or : (a b c : Bool) → (a && (b || c)) ≡ ((a && b) || (a && c))
and_or true b c = refl
and_or false b c = refl

pub and_none : (a : Bool) → (a && false) ≡ false
and_none true = refl
and_none false = refl

-- one more test under a condition
pub or_under : (a e b c : Bool) → ((a || (e && b)) || (e && c)) ≡ (a || (e && (b || c)))
or_under a e b c = or_more a (e && b) (e && c) ∙ ap (λ x. a || x) (sym (and_or e b c))

pub or_false : (a e b : Bool) → b ≡ false → a ≡ (a || (e && b))
or_false a e b h = sym (or_none a) ∙ ap (λ x. a || x) (sym (and_none e) ∙ ap (λ x. e && x) (sym h))

module _ {X : Type 0} where
  pub any_same : (p q : X → Bool) → ((x : X) → p x ≡ q x) → (xs : List X) → list_any p xs ≡ list_any q xs
  any_same p q h [] = refl
  any_same p q h (x ∷ xs) = ap (λ b. b || list_any p xs) (h x) ∙ ap (λ b. q x || b) (any_same p q h xs)

  pub any_or : (p q r : X → Bool) → ((x : X) → r x ≡ (p x || q x)) → (xs : List X) → list_any r xs ≡ (list_any p xs || list_any q xs)
  any_or p q r h [] = refl
  any_or p q r h (x ∷ xs) = ap (λ b. b || list_any r xs) (h x) ∙ ap (λ b. (p x || q x) || b) (any_or p q r h xs) ∙ or_pairs (p x) (q x) (list_any p xs) (list_any q xs)

  pub any_never : (p : X → Bool) → ((x : X) → p x ≡ false) → (xs : List X) → list_any p xs ≡ false
  any_never p h [] = refl
  any_never p h (x ∷ xs) = ap (λ b. b || list_any p xs) (h x) ∙ any_never p h xs

  pub any_append : (p : X → Bool) (xs ys : List X) → list_any p (xs ++ ys) ≡ (list_any p xs || list_any p ys)
  any_append p [] ys = refl
  any_append p (x ∷ xs) ys = ap (λ b. p x || b) (any_append p xs ys) ∙ sym (or_more (p x) (list_any p xs) (list_any p ys))
