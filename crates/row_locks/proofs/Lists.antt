-- Lists of Ids, place by place.
use Rattle.std.proofs.Common.{arith, ◌≡◌, refl, sym, ap, subst, ◌∙◌, ℕ, zero, suc, ◌+◌, ◌<◌, ◌≤◌, eqb, cond, Bool, true, false, List, [], ◌∷◌, ◌++◌, length, take, get_or, Option, None, Some}
use Rattle.std.specs.Prelude.{◌||◌, ◌&&◌, bytes_eq}
use Rattle.std.proofs.lemmas.Bool.{eqb-true, eq-eqb}
use Rattle.std.proofs.lemmas.List.{take_more}
use Rattle.row_meaning.specs.Stores.{has_id}
use Rattle.row_locks.specs.Holders.{Holders, FirstHeld, NoneHeld, but, first_here}
use Rattle.row_locks.specs.Locks.{place_eq}

-- ---- what is held by others

module _ (held : Holders) (s : ℕ) where
  pub none_more : (ids : List (List ℕ)) (k : ℕ) (id : List ℕ) → k < length ids → id ≡ get_or ids k id → but s (held id) ≡ None → NoneHeld held s (take k ids) → NoneHeld held s (take (k + 1) ids)
  none_more [] k id lt e n h = absurd (omega (arith, lt))
  none_more (i ∷ ids) zero id lt e n h = (subst (λ x. but s (held x) ≡ None) e n, tt)
  none_more (i ∷ ids) (suc k) id lt e n h =
      let on : suc k + 1 ≡ suc (k + 1) = omega arith in
      subst (λ m. NoneHeld held s (take m (i ∷ ids))) (sym on) (h.0, none_more ids k id (omega (arith, lt)) e n h.1)

  pub first_at : (ids : List (List ℕ)) (k : ℕ) (id : List ℕ) (other : ℕ) → k < length ids → id ≡ get_or ids k id → but s (held id) ≡ Some other → NoneHeld held s (take k ids) → FirstHeld held s ids id other
  first_at [] k id other lt e f h = absurd (omega (arith, lt))
  first_at (i ∷ ids) zero id other lt e f h = subst (λ o. first_here o i id other (FirstHeld held s ids id other)) (sym (ap (λ x. but s (held x)) (sym e) ∙ f)) (e, refl)
  first_at (i ∷ ids) (suc k) id other lt e f h = subst (λ o. first_here o i id other (FirstHeld held s ids id other)) (sym h.0) (first_at ids k id other (omega (arith, lt)) e f h.1)

  pub none_whole : (ids : List (List ℕ)) (k : ℕ) → length ids ≤ k → NoneHeld held s (take k ids) → NoneHeld held s ids
  none_whole [] k le h = tt
  none_whole (i ∷ ids) zero le h = absurd (omega (arith, le))
  none_whole (i ∷ ids) (suc k) le h = (h.0, none_whole ids k (omega (arith, le)) h.1)

-- ---- what is grabbed

cond_or : {A : Type 0} (a b : Bool) (x y : A) → cond (a || b) x y ≡ cond b x (cond a x y)
cond_or true true x y = refl
cond_or true false x y = refl
cond_or false true x y = refl
cond_or false false x y = refl

or_false : (a : Bool) → (a || false) ≡ a
or_false true = refl
or_false false = refl

or_assoc : (a b c : Bool) → ((a || b) || c) ≡ (a || (b || c))
or_assoc true b c = refl
or_assoc false b c = refl

has_more : (ids : List (List ℕ)) (i id : List ℕ) → has_id (ids ++ i ∷ []) id ≡ (has_id ids id || bytes_eq i id)
has_more [] i id = or_false (bytes_eq i id)
has_more (j ∷ ids) i id = ap (λ b. bytes_eq j id || b) (has_more ids i id) ∙ sym (or_assoc (bytes_eq j id) (has_id ids id) (bytes_eq i id))

pub place_is : (t u : ℕ) (i j : List ℕ) → place_eq (record { tenant = t; id = i }) (record { tenant = u; id = j }) ≡ (eqb t u && bytes_eq i j)
place_is t u i j = refl

same_tenant : (t : ℕ) (i j : List ℕ) → place_eq (record { tenant = t; id = i }) (record { tenant = t; id = j }) ≡ bytes_eq i j
same_tenant t i j = ap (λ b. b && bytes_eq i j) (eq-eqb t t refl)

apart_by : (a b : ℕ) (c : Bool) → (a ≡ b → ⊥) → eqb a b ≡ c → eqb a b ≡ false
apart_by a b true n e = absurd (n (eqb-true a b e))
apart_by a b false n e = e

pub other_tenant : (t u : ℕ) (i j : List ℕ) → (u ≡ t → ⊥) → place_eq (record { tenant = t; id = i }) (record { tenant = u; id = j }) ≡ false
other_tenant t u i j n = ap (λ b. b && bytes_eq i j) (apart_by t u (eqb t u) (λ e. n (sym e)) refl)

pub own_more : (tenant session : ℕ) (ids : List (List ℕ)) (k : ℕ) (at id : List ℕ) (old mid new : Option ℕ) → k < length ids → at ≡ get_or ids k [] →
    new ≡ cond (place_eq (record { tenant = tenant; id = at }) (record { tenant = tenant; id = id })) (Some session) mid → mid ≡ cond (has_id (take k ids) id) (Some session) old →
    new ≡ cond (has_id (take (k + 1) ids) id) (Some session) old
own_more tenant session ids k at id old mid new lt e n m =
    n ∙ ap (λ b. cond b (Some session) mid) (same_tenant tenant at id) ∙ ap (λ o. cond (bytes_eq at id) (Some session) o) m
    ∙ sym (cond_or (has_id (take k ids) id) (bytes_eq at id) (Some session) old)
    ∙ ap (λ b. cond b (Some session) old) (sym (has_more (take k ids) at id) ∙ ap (λ is. has_id is id) (sym (take_more ids k [] lt ∙ ap (λ x. take k ids ++ x ∷ []) (sym e))))

pub others_more : (tenant other session : ℕ) (at id : List ℕ) (old mid new : Option ℕ) → (other ≡ tenant → ⊥) →
    new ≡ cond (place_eq (record { tenant = tenant; id = at }) (record { tenant = other; id = id })) (Some session) mid → mid ≡ old → new ≡ old
others_more tenant other session at id old mid new apart n m = n ∙ ap (λ b. cond b (Some session) mid) (other_tenant tenant other at id apart) ∙ m

pub own_whole : (ids : List (List ℕ)) (k : ℕ) (id : List ℕ) → length ids ≤ k → has_id (take k ids) id ≡ has_id ids id
own_whole [] zero id le = refl
own_whole [] (suc k) id le = refl
own_whole (i ∷ ids) zero id le = absurd (omega (arith, le))
own_whole (i ∷ ids) (suc k) id le = ap (λ b. bytes_eq i id || b) (own_whole ids k id (omega (arith, le)))
