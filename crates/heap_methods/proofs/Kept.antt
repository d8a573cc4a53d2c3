-- Elements that are kept stay different.
use Rattle.std.proofs.Common.{◌≡◌, Bool, true, false, cond, filter, List, [], ◌∷◌, Result, Ok, Err, IfOk, ap, subst, sym, ◌∙◌}
use Rattle.std.specs.List.{AllByRecursion, IsDistinct}
use Rattle.std.proofs.lemmas.Map.Keys.{IsDistinct-head, IsDistinct-tail, IsDistinct-cons}

all_kept : {K : Type 0} (P : K → Type 0) (p : K → Bool) (xs : List K) → AllByRecursion P xs → AllByRecursion P (filter p xs)
all_kept P p [] h = tt
all_kept {K} P p (x ∷ xs) h = go (p x) h.0 (all_kept P p xs h.1)
  where
    go : (b : Bool) → P x → AllByRecursion P (filter p xs) → AllByRecursion P (cond b (x ∷ filter p xs) (filter p xs))
    go true here rest = (here, rest)
    go false here rest = rest

pub distinct_kept : {K : Type 0} (e : K → K → Bool) (p : K → Bool) (xs : List K) → IsDistinct e xs → IsDistinct e (filter p xs)
distinct_kept e p [] h = h
distinct_kept {K} e p (x ∷ xs) h = go (p x) (all_kept (λ y. e x y ≡ false) p xs (IsDistinct-head e x xs h)) (distinct_kept e p xs (IsDistinct-tail e x xs h))
  where
    go : (b : Bool) → AllByRecursion (λ y. e x y ≡ false) (filter p xs) → IsDistinct e (filter p xs) → IsDistinct e (cond b (x ∷ filter p xs) (filter p xs))
    go true here rest = IsDistinct-cons e x (filter p xs) here rest
    go false here rest = rest

pub ok_kept : {K E : Type 0} (e : K → K → Bool) (p : K → Bool) (r : Result (List K) E) (ks zs xs : List K) → xs ≡ filter p zs → zs ≡ ks → IsDistinct e ks → IfOk r (λ v. IsDistinct e xs → v ≡ xs) → IfOk r (λ v. v ≡ filter p ks)
ok_kept e p (Ok v) ks zs xs is same d h = let all : xs ≡ filter p ks = is ∙ ap (filter p) same in h (subst (IsDistinct e) (sym all) (distinct_kept e p ks d)) ∙ all
ok_kept e p (Err x) ks zs xs is same d h = tt
