-- Lists of views of which one changes, comes or goes; and beginnings of lists.
use Rattle.std.proofs.Common.{◌≡◌, ◌≢◌, ℕ, zero, suc, ◌<◌, ◌≤◌, ◌⊎◌, inl, inr, ⊎_elim, List, [], ◌∷◌, ◌++◌, length, set, slice_get, Option, Some, None, Contains, get_or, refl, sym, ap, subst, ◌∙◌, append_assoc, append-nil, Bool, true, false, cond, nat_lt, arith}
use mathlib.Core.Option.{none, some, some-ne-none}
use mathlib.Core.List.{IsPrefix}
use lib.ListN.{get_elem?}
use Rattle.std.proofs.lemmas.Bool.Decides.{Decides-ltb}
use Rattle.std.proofs.lemmas.Bool.{true≢false}
use Rattle.atomic_table.proofs.Lists.{at_set, at_snoc}
use Rattle.turn_lock.specs.Turns.{Each, longer, shorter}

-- ---- views

module _ {V : Type 0} where
  -- one is set
  pub each_set : (P : ℕ → V → Type 0) (views : List V) (id : ℕ) (w : V) → P id w → ((j : ℕ) (d : V) → j ≢ id → get_elem? views j ≡ some d → P j d) → Each P (set views id w)
  each_set P views id w mine others j d e = ⊎_elim
      (λ here. subst (λ (x : ℕ × V). P x.0 x.1) (λ i. (sym here.0 i, here.1 i)) mine)
      (λ there. others j d there.0 there.1)
      (at_set views id j w d e)

  pub pairs_set : (R : ℕ → V → ℕ → V → Type 0) (views : List V) (id : ℕ) (w : V) → R id w id w → ((j : ℕ) (d : V) → j ≢ id → get_elem? views j ≡ some d → R id w j d × R j d id w)
      → ((i : ℕ) (c : V) (j : ℕ) (d : V) → i ≢ id → j ≢ id → get_elem? views i ≡ some c → get_elem? views j ≡ some d → R i c j d) → Each (λ i c. Each (λ j d. R i c j d) (set views id w)) (set views id w)
  pairs_set R views id w self with_other others = each_set (λ i c. Each (λ j d. R i c j d) (set views id w)) views id w
      (each_set (λ j d. R id w j d) views id w self (λ j d n at. (with_other j d n at).0))
      (λ i c m here. each_set (λ j d. R i c j d) views id w (with_other i c m here).1 (λ j d n at. others i c j d m n here at))

  -- one comes behind the others
  pub each_push : (P : ℕ → V → Type 0) (views : List V) (w : V) → ((j : ℕ) → P j w) → Each P views → Each P (views ++ w ∷ [])
  each_push P views w last others j d e = ⊎_elim (λ old. others j d old) (λ new. subst (P j) new (last j)) (at_snoc views w d j e)

  pub pairs_push : (R : ℕ → V → ℕ → V → Type 0) (views : List V) (w : V) → ((i j : ℕ) → R i w j w) → ((i j : ℕ) (d : V) → R i w j d × R j d i w) → Each (λ i c. Each (λ j d. R i c j d) views) views
      → Each (λ i c. Each (λ j d. R i c j d) (views ++ w ∷ [])) (views ++ w ∷ [])
  pairs_push R views w self with_other others = each_push (λ i c. Each (λ j d. R i c j d) (views ++ w ∷ [])) views w
      (λ i. each_push (λ j d. R i w j d) views w (self i) (λ j d at. (with_other i j d).0))
      (λ i c here. each_push (λ j d. R i c j d) views w (λ j. (with_other j i c).1) (λ j d at. others i c here j d at))

  pub inside : (views : List V) (id : ℕ) (v : V) → get_elem? views id ≡ some v → id < length views
  inside [] id v e = absurd (some-ne-none v (sym e))
  inside (x ∷ xs) zero v e = omega arith
  inside (x ∷ xs) (suc id) v e = let k = inside xs id v e in omega arith

  pub only_one : (v w : V) (j : ℕ) → get_elem? (v ∷ []) j ≡ some w → (v ≡ w) × (j ≡ 0)
  only_one v w zero e = (some_is v w e, refl)
    where
      some_is : (a b : V) → ◌≡◌ {A = mathlib.Core.Option.Option V} (some a) (some b) → a ≡ b
      some_is a b e = mathlib.Core.Option.some-injective a b e
  only_one v w (suc j) e = absurd (some-ne-none w (sym e))

-- ---- items

module _ {A : Type 0} where
  pub some_is : (a b : A) → ◌≡◌ {A = Option A} (Some a) (Some b) → a ≡ b
  some_is a b e = cc

  pub none_is : (a : A) → ◌≡◌ {A = Option A} None (Some a) → ⊥
  none_is a e = cc

  pub last_or_before : (xs : List A) (x : A) (k : ℕ) (y : A) → slice_get (xs ++ x ∷ []) k ≡ Some y → (slice_get xs k ≡ Some y) ⊎ ((k ≡ length xs) × (x ≡ y))
  last_or_before [] x zero y e = inr (refl, some_is x y e)
  last_or_before [] x (suc k) y e = inl e
  last_or_before (z ∷ zs) x zero y e = inl e
  last_or_before (z ∷ zs) x (suc k) y e = ⊎_elim (λ h. inl h) (λ h. inr (ap suc h.0, h.1)) (last_or_before zs x k y e)

  before : (xs ys : List A) (k : ℕ) → k < length xs → slice_get (xs ++ ys) k ≡ slice_get xs k
  before [] ys k h = absurd (omega arith)
  before (x ∷ xs) ys zero h = refl
  before (x ∷ xs) ys (suc k) h = before xs ys k (omega arith)

  pub at_seam : (xs : List A) (y : A) (ys : List A) → slice_get (xs ++ y ∷ ys) (length xs) ≡ Some y
  at_seam [] y ys = refl
  at_seam (x ∷ xs) y ys = at_seam xs y ys

  -- what stands in a list that another one begins stands in that one, where it is long enough
  pub in_beginning : (xs ys : List A) → IsPrefix xs ys → (k : ℕ) (y : A) → slice_get ys k ≡ Some y → k < length xs → slice_get xs k ≡ Some y
  in_beginning xs ys p k y e h = sym (before xs p.0 k h) ∙ ap (λ z. slice_get z k) p.1 ∙ e

  pub begins_itself : (xs : List A) → IsPrefix xs xs
  begins_itself xs = ([], append-nil xs)

  pub begins_further : (xs ys zs : List A) → IsPrefix xs ys → IsPrefix ys zs → IsPrefix xs zs
  begins_further xs ys zs p q = (p.0 ++ q.0, sym (append_assoc xs p.0 q.0) ∙ ap (λ t. t ++ q.0) p.1 ∙ q.1)

  -- of two beginnings of one list the shorter begins the longer
  pub of_two : (xs ys zs : List A) → IsPrefix xs zs → IsPrefix ys zs → length xs ≤ length ys → IsPrefix xs ys
  of_two [] ys zs p q h = (ys, refl)
  of_two (x ∷ xs) [] zs p q h = absurd (omega arith)
  of_two (x ∷ xs) (y ∷ ys) [] p q h = absurd (let k = ap length p.1 in omega arith)
  of_two (x ∷ xs) (y ∷ ys) (z ∷ zs) p q h =
      let rest = of_two xs ys zs (p.0, tail_of p.1) (q.0, tail_of q.1) (omega arith) in
      (rest.0, joined (head_of p.1 ∙ sym (head_of q.1)) rest.1)
    where
      head_of : {a b : A} {ms bs : List A} → a ∷ ms ≡ b ∷ bs → a ≡ b
      head_of {a} {b} {ms} {bs} e = some_is a b (ap first e)
        where
          first : List A → Option A
          first [] = None
          first (c ∷ cs) = Some c

      tail_of : {a b : A} {ms bs : List A} → a ∷ ms ≡ b ∷ bs → ms ≡ bs
      tail_of e = ap rest_of e
        where
          rest_of : List A → List A
          rest_of [] = []
          rest_of (c ∷ cs) = cs

      joined : {a b : A} {ms bs : List A} → a ≡ b → ms ≡ bs → a ∷ ms ≡ b ∷ bs
      joined e f = λ i. e i ∷ f i

  either_of : (P : List A → Type 0) (xs ys : List A) (c : Bool) → P xs → P ys → P (cond c xs ys)
  either_of P xs ys true p q = p
  either_of P xs ys false p q = q

  pub longer_is : (P : List A → Type 0) (xs ys : List A) → P xs → P ys → P (longer xs ys)
  longer_is P xs ys p q = either_of P ys xs (nat_lt (length xs) (length ys)) q p

  pub shorter_is : (P : List A → Type 0) (xs ys : List A) → P xs → P ys → P (shorter xs ys)
  shorter_is P xs ys p q = either_of P xs ys (nat_lt (length xs) (length ys)) p q

  -- each of two lists is the longer or the shorter, and that one is shorter
  pub sizes : (xs ys : List A) → (length xs ≤ length (longer xs ys)) × (length ys ≤ length (longer xs ys)) × (length (shorter xs ys) ≤ length (longer xs ys))
  sizes xs ys = by (nat_lt (length xs) (length ys)) refl
    where
      by : (c : Bool) → nat_lt (length xs) (length ys) ≡ c → (length xs ≤ length (cond c ys xs)) × (length ys ≤ length (cond c ys xs)) × (length (cond c xs ys) ≤ length (cond c ys xs))
      by true e = let lt = (Decides-ltb (length xs) (length ys)).0 e in (omega arith, omega arith, omega arith)
      by false e = let not : length xs < length ys → ⊥ = λ lt. true≢false (sym ((Decides-ltb (length xs) (length ys)).1 lt) ∙ e) in (omega arith, omega (arith, not), omega (arith, not))

  -- where the shorter begins the longer, both do
  pub both_begin : (xs ys : List A) → IsPrefix (shorter xs ys) (longer xs ys) → IsPrefix xs (longer xs ys) × IsPrefix ys (longer xs ys)
  both_begin xs ys = by (nat_lt (length xs) (length ys))
    where
      by : (c : Bool) → IsPrefix (cond c xs ys) (cond c ys xs) → IsPrefix xs (cond c ys xs) × IsPrefix ys (cond c ys xs)
      by true p = (p, begins_itself ys)
      by false p = (begins_itself xs, p)

-- ---- numbers

pub no_number : (n : ℕ) → Contains {X = ℕ} [] n → ⊥
no_number n h = let k = h.1 in omega arith

pub one_number : (n k : ℕ) → Contains (k ∷ []) n → n ≡ k
one_number n k h = by h.0 h.1 h.2
  where
    by : (i : ℕ) → i < 1 → get_or (k ∷ []) i n ≡ n → n ≡ k
    by zero lt e = sym e
    by (suc i) lt e = absurd (omega arith)

pub some_number : (ns : List ℕ) → ns ≢ [] → (n : ℕ) × Contains ns n
some_number [] h = absurd (h refl)
some_number (n ∷ ns) h = (n, (0, omega arith, refl))
