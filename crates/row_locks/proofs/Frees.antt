-- What is left of the rows that are held where a session's are free.
use Rattle.std.proofs.Common.{◌≡◌, refl, sym, ap, subst, ◌∙◌, ℕ, eqb, cond, Bool, true, false, List, [], ◌∷◌, Option, None, Some}
use Rattle.std.specs.Prelude.{◌||◌, ◌&&◌, not, bytes_eq, filter}
use Rattle.std.specs.List.{AllByRecursion, IsDistinct}
use Rattle.std.specs.Map.{keys_of, lookup}
use Rattle.std.proofs.lemmas.Bool.{eqb-true, eq-eqb}
use Rattle.std.proofs.lemmas.Slice.Eq.{bytes_eq-Decides}
use Rattle.row_locks.specs.declared.place.Place.{Place}
use Rattle.row_locks.specs.Holders.{but}
use Rattle.row_locks.specs.Locks.{Locked, holder_of, place_eq}

some_none : {A : Type 0} {a : A} → ◌≡◌ {A = Option A} (Some a) None → ⊥
some_none e = cc

-- what stays where this session of this tenant holds nothing any more
abbrev pub stays : ℕ → ℕ → Place × ℕ → Bool
stays tenant session e = not (eqb e.0.tenant tenant) || not (eqb e.1 session)

module _ (test : Place → Bool) where
  passed_over : (e : Place × ℕ) (es : Locked) (b : Bool) → test e.0 ≡ false → lookup test (cond b (e ∷ es) es) ≡ lookup test es
  passed_over e es true t = ap (λ x. cond x (Some e.1) (lookup test es)) t
  passed_over e es false t = refl

  behind : (e : Place × ℕ) (es : Locked) → test e.0 ≡ false → lookup test (e ∷ es) ≡ lookup test es
  behind e es t = ap (λ x. cond x (Some e.1) (lookup test es)) t

  still_none : (p : Place × ℕ → Bool) (es : Locked) → lookup test es ≡ None → lookup test (filter p es) ≡ None
  still_none p [] h = refl
  still_none p (e ∷ es) h = by (λ g. still_none p es g) (test e.0) refl where
    by : (lookup test es ≡ None → lookup test (filter p es) ≡ None) → (b : Bool) → test e.0 ≡ b → lookup test (filter p (e ∷ es)) ≡ None
    by on true t = absurd (some_none (sym (ap (λ x. cond x (Some e.1) (lookup test es)) t) ∙ h))
    by on false t = passed_over e (filter p es) (p e) t ∙ on (sym (behind e es t) ∙ h)

  -- one key at most passes
  abbrev Once : Locked → Type 0
  Once [] = Unit {0}
  Once (e ∷ es) = (test e.0 ≡ true → lookup test es ≡ None) × Once es

  here : (s : ℕ) (e : Place × ℕ) (es : Locked) (b : Bool) → test e.0 ≡ true → lookup test es ≡ None → lookup test (cond (not b) (e ∷ es) es) ≡ cond b None (Some e.1)
  here s e es true t n = n
  here s e es false t n = ap (λ x. cond x (Some e.1) (lookup test es)) t

  own_left : (s : ℕ) (p : Place × ℕ → Bool) → ((e : Place × ℕ) → test e.0 ≡ true → p e ≡ not (eqb e.1 s)) → (es : Locked) → Once es → lookup test (filter p es) ≡ but s (lookup test es)
  own_left s p says [] o = refl
  own_left s p says (e ∷ es) o = by (own_left s p says es o.1) (test e.0) refl where
    by : lookup test (filter p es) ≡ but s (lookup test es) → (b : Bool) → test e.0 ≡ b → lookup test (filter p (e ∷ es)) ≡ but s (lookup test (e ∷ es))
    by on true t =
        ap (λ x. lookup test (cond x (e ∷ filter p es) (filter p es))) (says e t) ∙ here s e (filter p es) (eqb e.1 s) t (still_none p es (o.0 t))
        ∙ sym (ap (λ x. but s (cond x (Some e.1) (lookup test es))) t)
    by on false t = passed_over e (filter p es) (p e) t ∙ on ∙ sym (ap (but s) (behind e es t))

  all_left : (p : Place × ℕ → Bool) → ((e : Place × ℕ) → test e.0 ≡ true → p e ≡ true) → (es : Locked) → lookup test (filter p es) ≡ lookup test es
  all_left p says [] = refl
  all_left p says (e ∷ es) = by (all_left p says es) (test e.0) refl where
    by : lookup test (filter p es) ≡ lookup test es → (b : Bool) → test e.0 ≡ b → lookup test (filter p (e ∷ es)) ≡ lookup test (e ∷ es)
    by on true t = ap (λ x. lookup test (cond x (e ∷ filter p es) (filter p es))) (says e t) ∙ ap (λ x. cond x (Some e.1) (lookup test (filter p es))) t ∙ sym (ap (λ x. cond x (Some e.1) (lookup test es)) t)
    by on false t = passed_over e (filter p es) (p e) t ∙ on ∙ sym (behind e es t)

-- ---- keys that differ

and_left : (a b : Bool) → (a && b) ≡ true → a ≡ true
and_left true b e = refl
and_left false b e = cc

and_right : (a b : Bool) → (a && b) ≡ true → b ≡ true
and_right true b e = e
and_right false b e = cc

bytes_same : (xs ys : List ℕ) → bytes_eq xs ys ≡ true → xs ≡ ys
bytes_same xs ys e = (bytes_eq-Decides xs ys).0 e

same_place : (p q : Place) → place_eq p q ≡ true → p ≡ q
same_place p q e = ap (λ n. record { tenant = n; id = p.id }) (eqb-true p.tenant q.tenant (and_left (eqb p.tenant q.tenant) (bytes_eq p.id q.id) e)) ∙ ap (λ i. record { tenant = q.tenant; id = i }) (bytes_same p.id q.id (and_right (eqb p.tenant q.tenant) (bytes_eq p.id q.id) e))

none_of : (x : Place) (es : Locked) → AllByRecursion (λ y. place_eq x y ≡ false) (keys_of es) → lookup (place_eq x) es ≡ None
none_of x [] a = refl
none_of x (e ∷ es) a = behind (place_eq x) e es a.0 ∙ none_of x es a.1

once : (q : Place) (es : Locked) → IsDistinct place_eq (keys_of es) → Once (place_eq q) es
unfolding IsDistinct
once q [] d = tt
once q (e ∷ es) d = ((λ t. subst (λ x. lookup (place_eq x) es ≡ None) (sym (same_place q e.0 t)) (none_of e.0 es d.0)), once q es d.1)

-- ---- both

not_tenant : (a b : ℕ) (c : Bool) → (a ≡ b) → (not (eqb a b) || c) ≡ c
not_tenant a b c e = ap (λ x. not x || c) (eq-eqb a b e)

pub own_free : (tenant session : ℕ) (es : Locked) (id : List ℕ) → IsDistinct place_eq (keys_of es) → holder_of tenant (filter (stays tenant session) es) id ≡ but session (holder_of tenant es id)
own_free tenant session es id d =
    own_left (place_eq (record { tenant = tenant; id = id })) session (stays tenant session)
    (λ e t. not_tenant e.0.tenant tenant (not (eqb e.1 session)) (sym (ap (λ (p : Place). p.tenant) (same_place (record { tenant = tenant; id = id }) e.0 t)))) es (once (record { tenant = tenant; id = id }) es d)

not_other : (a b : ℕ) (c : Bool) → eqb a b ≡ false → (not (eqb a b) || c) ≡ true
not_other a b c e = ap (λ x. not x || c) e

apart : (a b : ℕ) → (a ≡ b → ⊥) → eqb a b ≡ false
apart a b n = by (eqb a b) refl where
  by : (c : Bool) → eqb a b ≡ c → eqb a b ≡ false
  by true e = absurd (n (eqb-true a b e))
  by false e = e

pub others_free : (tenant session other : ℕ) (es : Locked) (id : List ℕ) → (other ≡ tenant → ⊥) → holder_of other (filter (stays tenant session) es) id ≡ holder_of other es id
others_free tenant session other es id n =
    all_left (place_eq (record { tenant = other; id = id })) (stays tenant session)
    (λ e t. not_other e.0.tenant tenant (not (eqb e.1 session)) (apart e.0.tenant tenant (λ q. n (ap (λ (p : Place). p.tenant) (same_place (record { tenant = other; id = id }) e.0 t) ∙ q)))) es
