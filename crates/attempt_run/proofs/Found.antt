-- The session that is picked has a request that isn't closed.
use Rattle.std.proofs.Common.{arith, ◌≡◌, refl, sym, ap, subst, ◌∙◌, ℕ, zero, suc, ◌+◌, ◌<◌, cond, Bool, true, false, List, [], ◌∷◌, length, get_or, Option, None, Some}
use Rattle.std.specs.Prelude.{nat_lt, slice_get}
use Rattle.std.proofs.lemmas.Option.{get_or_from_slice_get, slice_get_within}
use Rattle.legal_trails.specs.Served.{Pick, or_picked}
use Rattle.session_turns.specs.declared.attempt.Standing.{Standing}
use Rattle.tenant_parts.specs.declared.session.Session.{Session}
use Rattle.attempt_run.specs.Picks.{first_of, first_of_all, is_unfinished, picked_by, unfinished_in}
use Rattle.attempt_run.specs.Plans.{ArePlans, IsPlan}
use Rattle.attempt_run.specs.declared.plan.Plan.{Plan}
use Rattle.attempt_run.proofs.Lists.{none_some, some_is}

true_false : true ≡ false → ⊥
true_false e = cc

false_true : false ≡ true → ⊥
false_true e = cc

-- ---- a session

pub record FoundIn (m s : ℕ) (ps : List Session) (xs : List Standing) : Type 0 where
  pub k : ℕ
  pub is : s ≡ m + k
  pub unfinished : is_unfinished (slice_get ps k) (slice_get xs k) ≡ true

found_in : (m s : ℕ) (ps : List Session) (xs : List Standing) → first_of m ps xs ≡ Some s → FoundIn m s ps xs
found_in m s [] [] e = absurd (none_some e)
found_in m s [] (x ∷ xs) e = absurd (none_some e)
found_in m s (p ∷ ps) [] e = absurd (none_some e)
found_in m s (p ∷ ps) (x ∷ xs) e = by (nat_lt x.closed (length p.requests)) refl (λ q. found_in (m + 1) s ps xs q) where
  by : (b : Bool) → nat_lt x.closed (length p.requests) ≡ b → (first_of (m + 1) ps xs ≡ Some s → FoundIn (m + 1) s ps xs) → FoundIn m s (p ∷ ps) (x ∷ xs)
  by true q more =
      let here : s ≡ m = some_is (sym e ∙ ap (λ b. cond b (Some m) (first_of (m + 1) ps xs)) q) in
      record { k = 0; is = omega (arith, here); unfinished = q }
  by false q more =
      let f = more (sym (ap (λ b. cond b (Some m) (first_of (m + 1) ps xs)) q) ∙ e) in
      let at = f.is in
      record { k = suc f.k; is = omega (arith, at); unfinished = f.unfinished }

-- ---- of all tenants

pub record Found (m t s : ℕ) (ps : List (Option Plan)) (all : List (List Standing)) : Type 0 where
  pub k : ℕ
  pub is : t ≡ m + k
  pub unfinished : unfinished_in (slice_get ps k) (slice_get all k) s ≡ true

same_pair : (a b c d : ℕ) → ◌≡◌ {A = Option Pick} (Some (a, b)) (Some (c, d)) → (a ≡ c) × (b ≡ d)
same_pair a b c d e = (ap (λ (p : Pick). p.0) (some_is e), ap (λ (p : Pick). p.1) (some_is e))

later : (m t s : ℕ) (ps : List (Option Plan)) (all : List (List Standing)) (p : Option Plan) (x : List Standing) → Found (m + 1) t s ps all → Found m t s (p ∷ ps) (x ∷ all)
later m t s ps all p x f = let at = f.is in record { k = suc f.k; is = omega (arith, at); unfinished = f.unfinished }

found : (m t s : ℕ) (ps : List (Option Plan)) (all : List (List Standing)) → ◌≡◌ {A = Option Pick} (first_of_all m ps all) (Some (t, s)) → Found m t s ps all
found m t s [] [] e = absurd (none_some e)
found m t s [] (x ∷ all) e = absurd (none_some e)
found m t s (p ∷ ps) [] e = absurd (none_some e)
found m t s (None ∷ ps) (x ∷ all) e = later m t s ps all None x (found (m + 1) t s ps all e)
found m t s (Some plan ∷ ps) (x ∷ all) e = by (first_of 0 plan.sessions x) refl (λ q. found (m + 1) t s ps all q) where
  by : (o : Option ℕ) → first_of 0 plan.sessions x ≡ o → (◌≡◌ {A = Option Pick} (first_of_all (m + 1) ps all) (Some (t, s)) → Found (m + 1) t s ps all) → Found m t s (Some plan ∷ ps) (x ∷ all)
  by None q more = later m t s ps all (Some plan) x (more (sym (ap (λ o. or_picked m o (first_of_all (m + 1) ps all)) q) ∙ e))
  by (Some k) q more =
      let here = same_pair m k t s (sym (ap (λ o. or_picked m o (first_of_all (m + 1) ps all)) q) ∙ e) in
      let f = found_in 0 k plan.sessions x q in
      let at = f.is in
      let there = here.0 in
      let number = here.1 in
      let same : f.k ≡ s = omega (arith, at, number) in
      record { k = 0; is = omega (arith, there); unfinished = subst (λ n. is_unfinished (slice_get plan.sessions n) (slice_get x n) ≡ true) same f.unfinished }

pub first_unfinished : (t s : ℕ) (ps : List (Option Plan)) (all : List (List Standing)) → ◌≡◌ {A = Option Pick} (first_of_all 0 ps all) (Some (t, s)) → unfinished_in (slice_get ps t) (slice_get all t) s ≡ true
first_unfinished t s ps all e =
    let f = found 0 t s ps all e in
    let at = f.is in
    let same : f.k ≡ t = omega (arith, at) in
    subst (λ n. unfinished_in (slice_get ps n) (slice_get all n) s ≡ true) same f.unfinished

pub picked_unfinished : (t s : ℕ) (turn : Pick) (ps : List (Option Plan)) (all : List (List Standing)) → ◌≡◌ {A = Option Pick} (picked_by ps all turn) (Some (t, s)) → unfinished_in (slice_get ps t) (slice_get all t) s ≡ true
picked_unfinished t s turn ps all e = by (unfinished_in (slice_get ps turn.0) (slice_get all turn.0) turn.1) refl where
  by : (b : Bool) → unfinished_in (slice_get ps turn.0) (slice_get all turn.0) turn.1 ≡ b → unfinished_in (slice_get ps t) (slice_get all t) s ≡ true
  by true q =
      let here : turn ≡ (t, s) = some_is (sym (ap (λ b. cond b (Some turn) (first_of_all 0 ps all)) q) ∙ e) in
      subst (λ (p : Pick). unfinished_in (slice_get ps p.0) (slice_get all p.0) p.1 ≡ true) here q
  by false q = first_unfinished t s ps all (sym (ap (λ b. cond b (Some turn) (first_of_all 0 ps all)) q) ∙ e)

-- ---- its plan and its standings

pub record HasBoth (ps : List (Option Plan)) (all : List (List Standing)) (t s : ℕ) : Type 0 where
  pub plan : Plan
  pub is_plan : slice_get ps t ≡ Some (Some plan)
  pub standings : List Standing
  pub are : slice_get all t ≡ Some standings
  pub unfinished : is_unfinished (slice_get plan.sessions s) (slice_get standings s) ≡ true

both_by : (ps : List (Option Plan)) (all : List (List Standing)) (t s : ℕ) (p : Option (Option Plan)) (x : Option (List Standing)) → slice_get ps t ≡ p → slice_get all t ≡ x → unfinished_in p x s ≡ true → HasBoth ps all t s
both_by ps all t s (Some (Some plan)) (Some standings) e f h = record { plan = plan; is_plan = e; standings = standings; are = f; unfinished = h }
both_by ps all t s (Some (Some plan)) None e f h = absurd (false_true h)
both_by ps all t s (Some None) x e f h = absurd (false_true h)
both_by ps all t s None x e f h = absurd (false_true h)

pub both : (ps : List (Option Plan)) (all : List (List Standing)) (t s : ℕ) → unfinished_in (slice_get ps t) (slice_get all t) s ≡ true → HasBoth ps all t s
both ps all t s h = both_by ps all t s (slice_get ps t) (slice_get all t) refl refl h

pub plan_there : (ps : List (Option Plan)) (t : ℕ) (plan : Plan) → ArePlans ps → slice_get ps t ≡ Some (Some plan) → IsPlan plan
plan_there [] t plan h e = absurd (none_some e)
plan_there (None ∷ ps) zero plan h e = absurd (none_some (some_is e))
plan_there (Some p ∷ ps) zero plan h e = subst IsPlan (some_is (some_is e)) h.0
plan_there (None ∷ ps) (suc t) plan h e = plan_there ps t plan h e
plan_there (Some p ∷ ps) (suc t) plan h e = plan_there ps t plan h.1 e

-- what is read there
pub read_plan : (ps : List (Option Plan)) (t : ℕ) (plan q : Plan) (o : Option Plan) → slice_get ps t ≡ Some (Some plan) → o ≡ get_or ps t o → o ≡ Some q → plan ≡ q
read_plan ps t plan q o e is f = some_is (sym (is ∙ get_or_from_slice_get ps t (Some plan) o e) ∙ f)

pub never_none : (ps : List (Option Plan)) (t : ℕ) (plan : Plan) (o : Option Plan) → slice_get ps t ≡ Some (Some plan) → o ≡ get_or ps t o → o ≡ None → ⊥
never_none ps t plan o e is f = none_some (sym f ∙ (is ∙ get_or_from_slice_get ps t (Some plan) o e))

pub within : {A : Type 0} (xs : List A) (t : ℕ) (x : A) → slice_get xs t ≡ Some x → t < length xs
within xs t x e = slice_get_within xs t x e
