-- Lists that are in order, and where ties stand as they did.
use Rattle.std.proofs.Common.{◌≡◌, ◌<◌, ◌≤◌, ◌+◌, refl, ap, ap₂, sym, subst, ◌∙◌, ℕ, zero, suc, Bool, true, false, cond, not, List, [], ◌∷◌, length, get_or, arith}
use Rattle.std.specs.Prelude.{◌&&◌, filter}
use Rattle.std.specs.Cmp.{IsTotalOrder}
use Rattle.std.specs.List.Sorted.{IsSortedBy, IsStableBy, ties}
use Rattle.std.specs.Ordering.{is_lt, is_eq, is_gt, ordering_reverse}
use Rattle.std.specs.declared.cmp.Ordering.{Ordering}
use Rattle.std.specs.declared.cmp.Ordering.TheVariants.{Less, Equal, Greater}
use Rattle.std.proofs.lemmas.Cmp.{upto, tied_itself, alike_right}
use Rattle.query_rows.specs.Orders.{placed_in, placed_by, sorted_in}

is_equal : (q : Ordering) → is_eq q ≡ true → q ≡ Equal
is_equal Less e = absurd (cc)
is_equal Equal e = refl
is_equal Greater e = absurd (cc)

module _ {A : Type 0} (R : A → A → Ordering) (o : IsTotalOrder R) where
  -- no element of these comes before x
  abbrev AllBehind : A → List A → Type 0
  AllBehind x [] = Unit {0}
  AllBehind x (y ∷ ys) = (is_gt (R x y) ≡ false) × AllBehind x ys

  abbrev Rises : List A → Type 0
  Rises [] = Unit {0}
  Rises (x ∷ xs) = AllBehind x xs × Rises xs

  abbrev pub before : A → A → Bool
  before x y = is_lt (R x y)

  abbrev tied : A → A → Bool
  tied x y = is_eq (R x y)

  abbrev with_ties : A → List A → List A
  with_ties q xs = filter (tied q) xs

  -- ---- from what a sort says

  back : (x y : A) → before y x ≡ false → is_gt (R x y) ≡ false
  back x y h = ap is_gt (o.antisymm x y) ∙ by (R y x) h where
    by : (q : Ordering) → is_lt q ≡ false → is_gt (ordering_reverse q) ≡ false
    by Less e = absurd (cc)
    by Equal e = refl
    by Greater e = refl

  through : (y z : A) → is_gt (R y z) ≡ false → (ws : List A) → AllBehind z ws → AllBehind y ws
  through y z h [] a = tt
  through y z h (w ∷ ws) a = (upto o y z w h a.0, through y z h ws a.1)

  tail : (y : A) (ys : List A) → IsSortedBy before (y ∷ ys) → IsSortedBy before ys
  tail y ys h k d low high =
      let e : suc k + 1 ≡ suc (k + 1) = omega arith in
      subst (λ n. before (get_or (y ∷ ys) n d) (get_or ys k d) ≡ false) e (h (suc k) d (omega arith) (omega arith))

  rises : (ys : List A) → IsSortedBy before ys → Rises ys
  rises [] h = tt
  rises (y ∷ []) h = (tt, tt)
  rises (y ∷ z ∷ zs) h =
      let next : is_gt (R y z) ≡ false = back y z (h 0 y (omega arith) (omega arith)) in
      let more : Rises (z ∷ zs) = rises (z ∷ zs) (tail y (z ∷ zs) h) in
      ((next, through y z next zs more.0), more)

  ties_are : (x y : A) → ties before x y ≡ tied x y
  ties_are x y = ap (λ q. not (is_lt (R x y)) && not (is_lt q)) (o.antisymm y x) ∙ by (R x y) where
    by : (q : Ordering) → (not (is_lt q) && not (is_lt (ordering_reverse q))) ≡ is_eq q
    by Less = refl
    by Equal = refl
    by Greater = refl

  same_ties : (q : A) (xs : List A) → filter (ties before q) xs ≡ with_ties q xs
  same_ties q [] = refl
  same_ties q (x ∷ xs) = ap₂ (λ b rest. cond b (x ∷ rest) rest) (ties_are q x) (same_ties q xs)

  -- ---- a list in order is told by its ties

  less_upto : (q z w : A) → R q z ≡ Less → is_gt (R z w) ≡ false → R q w ≡ Less
  less_upto q z w l h = by (R z w) refl h where
    by : (r : Ordering) → R z w ≡ r → is_gt r ≡ false → R q w ≡ Less
    by Less e g = o.trans q z w l e
    by Equal e g = sym (alike_right o z w q e) ∙ l
    by Greater e g = absurd (cc)

  no_ties : (q z : A) → R q z ≡ Less → (ws : List A) → AllBehind z ws → with_ties q ws ≡ []
  no_ties q z l [] a = refl
  no_ties q z l (w ∷ ws) a =
      ap (λ b. cond b (w ∷ with_ties q ws) (with_ties q ws)) (ap is_eq (less_upto q z w l a.0)) ∙ no_ties q z l ws a.1

  none_at : (q z : A) (zs : List A) → R q z ≡ Less → AllBehind z zs → with_ties q (z ∷ zs) ≡ []
  none_at q z zs l a = ap (λ b. cond b (z ∷ with_ties q zs) (with_ties q zs)) (ap is_eq l) ∙ no_ties q z l zs a

  own_tie : (z : A) (zs : List A) → with_ties z (z ∷ zs) ≡ z ∷ with_ties z zs
  own_tie z zs = ap (λ r. cond (is_eq r) (z ∷ with_ties z zs) (with_ties z zs)) (tied_itself o z)

  not_none : (z : A) (zs : List A) → [] ≡ z ∷ zs → ⊥
  not_none z zs e = absurd (cc)

  strip : (b : Bool) (z : A) (xs ys : List A) → cond b (z ∷ xs) xs ≡ cond b (z ∷ ys) ys → xs ≡ ys
  strip true z xs ys e = cc
  strip false z xs ys e = e

  heads : (y z : A) (ys zs : List A) → y ∷ ys ≡ z ∷ zs → y ≡ z
  heads y z ys zs e = cc

  unique : (ys zs : List A) → Rises ys → Rises zs → ((q : A) → with_ties q ys ≡ with_ties q zs) → ys ≡ zs
  unique [] [] u v h = refl
  unique [] (z ∷ zs) u v h = absurd (not_none z (with_ties z zs) (h z ∙ own_tie z zs))
  unique (y ∷ ys) [] u v h = absurd (not_none y (with_ties y ys) (sym (h y) ∙ own_tie y ys))
  unique (y ∷ ys) (z ∷ zs) u v h = by (R y z) refl (unique ys zs u.1 v.1) where
    by : (q : Ordering) → R y z ≡ q → (((q : A) → with_ties q ys ≡ with_ties q zs) → ys ≡ zs) → y ∷ ys ≡ z ∷ zs
    by Less e more = absurd (not_none y (with_ties y ys) (sym (h y ∙ none_at y z zs e v.0) ∙ own_tie y ys))
    by Greater e more = absurd (not_none z (with_ties z zs) (sym (sym (h z) ∙ none_at z y ys (o.antisymm z y ∙ ap ordering_reverse e) u.0) ∙ own_tie z zs))
    by Equal e more =
        let same : y ≡ z = heads y z (with_ties y ys) (with_ties y zs) (sym (own_tie y ys) ∙ h y ∙ ap (λ r. cond (is_eq r) (z ∷ with_ties y zs) (with_ties y zs)) e) in
        ap₂ (λ (x : A) (xs : List A). x ∷ xs) same (more (λ q. strip (tied q y) y (with_ties q ys) (with_ties q zs) (h q ∙ ap (λ x. with_ties q (x ∷ zs)) (sym same))))

  -- ---- placing one by one

  placed_behind : (x r : A) (s : List A) → is_gt (R r x) ≡ false → AllBehind r s → AllBehind r (placed_in R x s)
  placed_behind x r [] h a = (h, tt)
  placed_behind x r (y ∷ s) h a = by (R x y) (placed_behind x r s h a.1) where
    by : (q : Ordering) → AllBehind r (placed_in R x s) → AllBehind r (placed_by q x y s (placed_in R x s))
    by Less more = (h, a)
    by Equal more = (h, a)
    by Greater more = (a.0, more)

  placed_rises : (x : A) (s : List A) → Rises s → Rises (placed_in R x s)
  placed_rises x [] h = (tt, tt)
  placed_rises x (y ∷ s) h = by (R x y) refl (placed_rises x s h.1) where
    by : (q : Ordering) → R x y ≡ q → Rises (placed_in R x s) → Rises (placed_by q x y s (placed_in R x s))
    by Less e more = ((ap is_gt e, through x y (ap is_gt e) s h.0), h)
    by Equal e more = ((ap is_gt e, through x y (ap is_gt e) s h.0), h)
    by Greater e more = (placed_behind x y s (ap is_gt (o.antisymm y x ∙ ap ordering_reverse e)) h.0, more)

  sorted_rises : (xs : List A) → Rises (sorted_in R xs)
  sorted_rises [] = tt
  sorted_rises (x ∷ xs) = placed_rises x (sorted_in R xs) (sorted_rises xs)

  placed_ties : (q x : A) (s : List A) → with_ties q (placed_in R x s) ≡ with_ties q (x ∷ s)
  placed_ties q x [] = refl
  placed_ties q x (y ∷ s) = by (R x y) refl (placed_ties q x s) where
    apart : R x y ≡ Greater → tied q x ≡ true → tied q y ≡ true → ⊥
    apart e tx ty =
        let equal : Equal ≡ Greater = sym (is_equal (R q y) ty) ∙ o.congr q x y (is_equal (R q x) tx) ∙ e in
        absurd (cc)

    swapped : (tx ty : Bool) → (tx ≡ true → ty ≡ true → ⊥) → (rest : List A) →
        cond ty (y ∷ cond tx (x ∷ rest) rest) (cond tx (x ∷ rest) rest) ≡ cond tx (x ∷ cond ty (y ∷ rest) rest) (cond ty (y ∷ rest) rest)
    swapped true true not_both rest = absurd (not_both refl refl)
    swapped true false not_both rest = refl
    swapped false true not_both rest = refl
    swapped false false not_both rest = refl

    by : (r : Ordering) → R x y ≡ r → with_ties q (placed_in R x s) ≡ with_ties q (x ∷ s) → with_ties q (placed_by r x y s (placed_in R x s)) ≡ with_ties q (x ∷ y ∷ s)
    by Less e more = refl
    by Equal e more = refl
    by Greater e more = ap (λ (l : List A). cond (tied q y) (y ∷ l) l) more ∙ swapped (tied q x) (tied q y) (apart e) (with_ties q s)

  sorted_ties : (q : A) (xs : List A) → with_ties q (sorted_in R xs) ≡ with_ties q xs
  sorted_ties q [] = refl
  sorted_ties q (x ∷ xs) = placed_ties q x (sorted_in R xs) ∙ ap (λ (l : List A). cond (tied q x) (x ∷ l) l) (sorted_ties q xs)

  -- a stable sort is placing one by one
  pub sorts : (xs ys : List A) → IsSortedBy before ys → IsStableBy before xs ys → ys ≡ sorted_in R xs
  sorts xs ys up stable =
      unique ys (sorted_in R xs) (rises ys up) (sorted_rises xs) (λ q. sym (same_ties q ys) ∙ stable q ∙ same_ties q xs ∙ sym (sorted_ties q xs))
