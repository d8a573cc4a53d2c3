-- What stands at a place, after a change there.
use Rattle.std.proofs.Common.{◌≡◌, ℕ, zero, suc, ◌≤◌, List, [], ◌∷◌, length, get_or, set, refl, ap, subst, ◌∙◌, arith}
use Rattle.std.proofs.lemmas.List.{set-get_or}
use Rattle.txn_heap.specs.declared.thing.Thing.{Thing}
use Rattle.txn_heap.specs.Changes.{changed}

pub changed_here : (xs : List Thing) (i : ℕ) (d new : Thing) (f : Thing → Thing) → d ≡ get_or xs i d → new ≡ f d → set xs i new ≡ changed i f xs
changed_here [] i d new f is e = refl
changed_here (x ∷ xs) zero d new f is e = ap (λ t. t ∷ xs) (e ∙ ap f is)
changed_here (x ∷ xs) (suc i) d new f is e = ap (λ l. x ∷ l) (changed_here xs i d new f is e)

pub changed_past : (xs : List Thing) (i : ℕ) (f : Thing → Thing) → length xs ≤ i → xs ≡ changed i f xs
changed_past [] i f h = refl
changed_past (x ∷ xs) zero f h = absurd (omega arith)
changed_past (x ∷ xs) (suc i) f h = ap (λ l. x ∷ l) (changed_past xs i f (omega arith))

pub unchanged_here : (xs : List Thing) (i : ℕ) (d new : Thing) → d ≡ get_or xs i d → new ≡ d → set xs i new ≡ xs
unchanged_here xs i d new is e = ap (set xs i) (e ∙ is) ∙ set-get_or xs i d

-- the same of a list that is seen as another
pub seen_here : (xs ys : List Thing) (i : ℕ) (d new : Thing) (f : Thing → Thing) → xs ≡ ys → d ≡ get_or xs i d → new ≡ f d → set xs i new ≡ changed i f ys
seen_here xs ys i d new f same is e = changed_here xs i d new f is e ∙ ap (changed i f) same

pub seen_past : (xs ys : List Thing) (i : ℕ) (f : Thing → Thing) → xs ≡ ys → length xs ≤ i → ys ≡ changed i f ys
seen_past xs ys i f same h = changed_past ys i f (subst (λ l. length l ≤ i) same h)

pub seen_unchanged : (xs ys : List Thing) (i : ℕ) (d new : Thing) → xs ≡ ys → d ≡ get_or xs i d → new ≡ d → set xs i new ≡ ys
seen_unchanged xs ys i d new same is e = unchanged_here xs i d new is e ∙ same
