-- The first fault of a list, item by item.
use Rattle.std.specs.Prelude.{◌≡◌, ◌≤◌, ◌<◌, ◌+◌, ℕ, suc, List, drop, get_or, length, Option, None, Some}
use Rattle.std.proofs.Common.{refl, sym, ap, subst, ◌∙◌, arith, drop-cons}
use Rattle.std.proofs.lemmas.List.{drop_all}
use Rattle.fault_words.specs.declared.fault.Fault.{Fault}
use Rattle.schema_plans.specs.Plans.{first_of, or_later}

opened : {A : Type 0} (f : ℕ → A → Option Fault) (xs : List A) (i : ℕ) (d x : A) → i < length xs → x ≡ get_or xs i d → first_of f i (drop i xs) ≡ or_later (f i x) (first_of f (i + 1) (drop (i + 1) xs))
opened f xs i d x h e =
    ap (first_of f i) (drop-cons xs i d h)
    ∙ ap (λ k. or_later (f i (get_or xs i d)) (first_of f (i + 1) (drop k xs))) (let g : suc i ≡ i + 1 = omega arith in g)
    ∙ ap (λ y. or_later (f i y) (first_of f (i + 1) (drop (i + 1) xs))) (sym e)

pub first_more : {A : Type 0} (f : ℕ → A → Option Fault) (xs : List A) (i : ℕ) (d x : A) (r : Option Fault) → i < length xs → x ≡ get_or xs i d → None ≡ f i x → r ≡ first_of f i (drop i xs) → r ≡ first_of f (i + 1) (drop (i + 1) xs)
first_more f xs i d x r h e n s = s ∙ opened f xs i d x h e ∙ ap (λ o. or_later o (first_of f (i + 1) (drop (i + 1) xs))) (sym n)

pub first_here : {A : Type 0} (f : ℕ → A → Option Fault) (xs : List A) (i : ℕ) (d x : A) (r : Option Fault) (a : Fault) → i < length xs → x ≡ get_or xs i d → Some a ≡ f i x → r ≡ first_of f i (drop i xs) → Some a ≡ r
first_here f xs i d x r a h e n s = ap (λ o. or_later o (first_of f (i + 1) (drop (i + 1) xs))) n ∙ sym (opened f xs i d x h e) ∙ sym s

pub first_none : {A : Type 0} (f : ℕ → A → Option Fault) (xs : List A) (i : ℕ) (r : Option Fault) → length xs ≤ i → r ≡ first_of f i (drop i xs) → None ≡ r
first_none f xs i r h s = sym (s ∙ ap (first_of f i) (drop_all i xs h))

none_of : {A : Type 0} (o : Option A) → ((a : A) → o ≡ Some a → ⊥) → None ≡ o
none_of None h = refl
none_of (Some a) h = absurd (h a refl)

-- the same over an equal list, at an item that has no fault
pub first_over : {A : Type 0} (f : ℕ → A → Option Fault) (xs ys : List A) (i : ℕ) (d : A) (r o : Option Fault) → ys ≡ xs → i < length ys → o ≡ f i (get_or ys i d) → ((a : Fault) → o ≡ Some a → ⊥) → r ≡ first_of f i (drop i xs) → r ≡ first_of f (i + 1) (drop (i + 1) xs)
first_over f xs ys i d r o s h e n t =
    subst (λ l. r ≡ first_of f (i + 1) (drop (i + 1) l)) s (first_more f ys i d (get_or ys i d) r h refl (none_of o n ∙ e) (t ∙ ap (λ l. first_of f i (drop i l)) (sym s)))
