-- Where the first session that isn't finished is looked for.
use Rattle.std.proofs.Common.{arith, ◌≡◌, inl, inr, refl, sym, ap, ◌∙◌, ℕ, zero, suc, ◌+◌, ◌<◌, ◌≤◌, eqb, cond, Bool, true, false, List, [], ◌∷◌, get_or, length, Option, None, Some}
use Rattle.std.specs.Prelude.{nat_lt, slice_get}
use Rattle.std.proofs.lemmas.Bool.{eqb-true, eqb-false, ltb-true, ltb-false}
use Rattle.std.proofs.lemmas.Option.{slice_get_read}
use Rattle.legal_trails.specs.Served.{Pick, or_picked}
use Rattle.session_turns.specs.declared.attempt.Standing.{Standing}
use Rattle.tenant_parts.specs.declared.session.Session.{Session}
use Rattle.attempt_run.specs.Picks.{HasPassed, IsFirst, IsFound, NoneBelow, OthersStay, first_in, first_of, first_of_all, is_unfinished, unfinished_in, unfinished_of}
use Rattle.attempt_run.specs.declared.picks.Cursor.{Cursor}
use Rattle.attempt_run.specs.declared.plan.Plan.{Plan}

false_true : false ≡ true → ⊥
false_true e = cc

true_false : true ≡ false → ⊥
true_false e = cc

none_unfinished : (o : Option Session) → is_unfinished o None ≡ false
none_unfinished None = refl
none_unfinished (Some p) = refl

unfinished_none : (o : Option Standing) → is_unfinished None o ≡ false
unfinished_none None = refl
unfinished_none (Some p) = refl

in_none : (o : Option (Option Plan)) (s : ℕ) → unfinished_in o None s ≡ false
in_none None s = refl
in_none (Some None) s = refl
in_none (Some (Some p)) s = refl

-- behind a list there is nothing
no_more : {A : Type 0} (xs : List A) (t : ℕ) → length xs ≤ t → slice_get xs t ≡ None
no_more [] t le = refl
no_more (x ∷ xs) zero le = absurd (omega (arith, le))
no_more (x ∷ xs) (suc t) le = no_more xs t (omega (arith, le))

-- ---- numbers, one after the other

pub none_next : (has : ℕ → Bool) (n : ℕ) → NoneBelow n has → has n ≡ false → NoneBelow (n + 1) has
none_next has n h e s lt = by (eqb s n) refl where
  by : (b : Bool) → eqb s n ≡ b → has s ≡ false
  by true q = ap has (eqb-true s n q) ∙ e
  by false q = h s (other (eqb-false s n q)) where
    other : (s ≡ n → ⊥) → s < n
    other ne = below (nat_lt s n) refl where
      below : (b : Bool) → nat_lt s n ≡ b → s < n
      below true l = ltb-true s n l
      below false l = absurd (ne (let ge = ltb-false s n l in omega (arith, ge, lt)))

-- ---- the sessions of a tenant

-- behind them there is none
none_behind : (qs : List Session) (xs : List Standing) (s : ℕ) → length qs ≤ s → unfinished_of qs xs s ≡ false
none_behind [] xs s le = unfinished_none (slice_get xs s)
none_behind (q ∷ qs) xs zero le = absurd (omega (arith, le))
none_behind (q ∷ qs) [] (suc s) le = none_unfinished (slice_get qs s)
none_behind (q ∷ qs) (x ∷ xs) (suc s) le = none_behind qs xs s (omega (arith, le))

pub none_at_all : (qs : List Session) (xs : List Standing) (n : ℕ) → NoneBelow n (unfinished_of qs xs) → length qs ≤ n → IsFirst (unfinished_of qs xs) None
none_at_all qs xs n h le s = by (nat_lt s n) refl where
  by : (b : Bool) → nat_lt s n ≡ b → unfinished_of qs xs s ≡ false
  by true q = h s (ltb-true s n q)
  by false q = let ge = ltb-false s n q in none_behind qs xs s (omega (arith, ge, le))

first_gone : (m : ℕ) (qs : List Session) (xs : List Standing) → IsFirst (unfinished_of qs xs) None → first_of m qs xs ≡ None
first_gone m [] [] h = refl
first_gone m [] (x ∷ xs) h = refl
first_gone m (q ∷ qs) [] h = refl
first_gone m (q ∷ qs) (x ∷ xs) h = ap (λ b. cond b (Some m) (first_of (m + 1) qs xs)) (h 0) ∙ first_gone (m + 1) qs xs (λ s. h (suc s))

first_here : (m k : ℕ) (qs : List Session) (xs : List Standing) → IsFirst (unfinished_of qs xs) (Some k) → first_of m qs xs ≡ Some (m + k)
first_here m k [] xs h = absurd (false_true (sym (unfinished_none (slice_get xs k)) ∙ h.1))
first_here m k (q ∷ qs) [] h = absurd (false_true (sym (none_unfinished (slice_get (q ∷ qs) k)) ∙ h.1))
first_here m zero (q ∷ qs) (x ∷ xs) h =
    let same : m ≡ m + 0 = omega arith in
    ap (λ b. cond b (Some m) (first_of (m + 1) qs xs)) h.1 ∙ ap Some same
first_here m (suc k) (q ∷ qs) (x ∷ xs) h =
    let same : m + 1 + k ≡ m + suc k = omega arith in
    ap (λ b. cond b (Some m) (first_of (m + 1) qs xs)) (h.0 0 (omega arith)) ∙ first_here (m + 1) k qs xs ((λ s lt. h.0 (suc s) (omega (arith, lt))), h.1) ∙ ap Some same

-- ---- all tenants

in_gone : (p : Option Plan) (x : List Standing) → IsFirst (unfinished_in (Some p) (Some x)) None → first_in p x ≡ None
in_gone None x h = refl
in_gone (Some plan) x h = first_gone 0 plan.sessions x h

in_here : (p : Option Plan) (x : List Standing) (s : ℕ) → IsFirst (unfinished_in (Some p) (Some x)) (Some s) → first_in p x ≡ Some s
in_here None x s h = absurd (false_true h.1)
in_here (Some plan) x s h = let same : 0 + s ≡ s = omega arith in first_here 0 s plan.sessions x h ∙ ap Some same

all_gone : (m : ℕ) (ps : List (Option Plan)) (all : List (List Standing)) → ((t : ℕ) → IsFirst (unfinished_in (slice_get ps t) (slice_get all t)) None) → first_of_all m ps all ≡ None
all_gone m [] [] h = refl
all_gone m [] (x ∷ all) h = refl
all_gone m (p ∷ ps) [] h = refl
all_gone m (p ∷ ps) (x ∷ all) h = ap (λ o. or_picked m o (first_of_all (m + 1) ps all)) (in_gone p x (h 0)) ∙ all_gone (m + 1) ps all (λ t. h (suc t))

all_here : (m k s : ℕ) (ps : List (Option Plan)) (all : List (List Standing)) → ((t : ℕ) → t < k → IsFirst (unfinished_in (slice_get ps t) (slice_get all t)) None) → IsFirst (unfinished_in (slice_get ps k) (slice_get all k)) (Some s) → ◌≡◌ {A = Option Pick} (first_of_all m ps all) (Some (m + k, s))
all_here m k s [] all h i = absurd (false_true i.1)
all_here m k s (p ∷ ps) [] h i = absurd (false_true (sym (in_none (slice_get (p ∷ ps) k) s) ∙ i.1))
all_here m zero s (p ∷ ps) (x ∷ all) h i =
    let same : m ≡ m + 0 = omega arith in
    ap (λ o. or_picked m o (first_of_all (m + 1) ps all)) (in_here p x s i) ∙ ap (λ n. Some (n, s)) same
all_here m (suc k) s (p ∷ ps) (x ∷ all) h i =
    let same : m + 1 + k ≡ m + suc k = omega arith in
    ap (λ o. or_picked m o (first_of_all (m + 1) ps all)) (in_gone p x (h 0 (omega arith))) ∙ all_here (m + 1) k s ps all (λ t lt. h (suc t) (omega (arith, lt))) i ∙ ap (λ n. Some (n, s)) same

module _ (ps : List (Option Plan)) (all : List (List Standing)) where
  in_front : (t from : ℕ) → HasPassed ps all (record { tenant = t; session = from }) → (u : ℕ) → u < t → IsFirst (unfinished_in (slice_get ps u) (slice_get all u)) None
  in_front t from h u lt s = h u s (inl lt)

  pub passed_in : (t from : ℕ) → HasPassed ps all (record { tenant = t; session = from }) → NoneBelow from (unfinished_in (slice_get ps t) (slice_get all t))
  passed_in t from h s lt = h t s (inr (refl, lt))

  pub passed_first : HasPassed ps all (record { tenant = 0; session = 0 })
  passed_first t s (inl lt) = absurd (omega (arith, lt))
  passed_first t s (inr b) = let lt = b.1 in absurd (omega (arith, lt))

  -- a tenant whose sessions are all finished is passed
  pub passed_next : (t from : ℕ) → HasPassed ps all (record { tenant = t; session = from }) → IsFirst (unfinished_in (slice_get ps t) (slice_get all t)) None → HasPassed ps all (record { tenant = t + 1; session = 0 })
  passed_next t from h gone u s (inr b) = let lt = b.1 in absurd (omega (arith, lt))
  passed_next t from h gone u s (inl lt) = by (eqb u t) refl where
    by : (b : Bool) → eqb u t ≡ b → unfinished_in (slice_get ps u) (slice_get all u) s ≡ false
    by true q = ap (λ n. unfinished_in (slice_get ps n) (slice_get all n) s) (eqb-true u t q) ∙ gone s
    by false q = less (nat_lt u t) refl where
      less : (b : Bool) → nat_lt u t ≡ b → unfinished_in (slice_get ps u) (slice_get all u) s ≡ false
      less true l = h u s (inl (ltb-true u t l))
      less false l = absurd (eqb-false u t q (let ge = ltb-false u t l in omega (arith, ge, lt)))

  passed_here : (t from s : ℕ) → HasPassed ps all (record { tenant = t; session = from }) → IsFirst (unfinished_in (slice_get ps t) (slice_get all t)) (Some s) → HasPassed ps all (record { tenant = t; session = s })
  passed_here t from s h i u r (inl lt) = h u r (inl lt)
  passed_here t from s h i u r (inr b) = ap (λ n. unfinished_in (slice_get ps n) (slice_get all n) r) b.0 ∙ i.0 r b.1

  pub found_here : (t from s : ℕ) → HasPassed ps all (record { tenant = t; session = from }) → IsFirst (unfinished_in (slice_get ps t) (slice_get all t)) (Some s) → IsFound ps all (Some (record { tenant = t; session = s }))
  found_here t from s h i = let same : 0 + t ≡ t = omega arith in (passed_here t from s h i, all_here 0 t s ps all (in_front t from h) i ∙ ap (λ n. Some (n, s)) same)

  -- behind the last tenant there is none
  pub found_none : (t from : ℕ) → HasPassed ps all (record { tenant = t; session = from }) → length ps ≤ t → IsFound ps all None
  found_none t from h le = all_gone 0 ps all each where
    each : (u : ℕ) → IsFirst (unfinished_in (slice_get ps u) (slice_get all u)) None
    each u s = by (nat_lt u t) refl where
      by : (b : Bool) → nat_lt u t ≡ b → unfinished_in (slice_get ps u) (slice_get all u) s ≡ false
      by true q = h u s (inl (ltb-true u t q))
      by false q = let ge = ltb-false u t q in ap (λ o. unfinished_in o (slice_get all u) s) (no_more ps u (omega (arith, ge, le)))

-- ---- a tenant that is read

module _ (ps : List (Option Plan)) (all : List (List Standing)) (t : ℕ) where
  is_there : (plan : Option Plan) (x xs : List Standing) → t < length ps → t < length all → plan ≡ get_or ps t plan → x ≡ get_or all t x → xs ≡ x → (s : ℕ) → unfinished_in (Some plan) (Some xs) s ≡ unfinished_in (slice_get ps t) (slice_get all t) s
  is_there plan x xs lt less e f g s =
      ap (λ o. unfinished_in (Some plan) (Some o) s) g
      ∙ sym (ap (λ o. unfinished_in o (Some x) s) (slice_get_read ps (length ps) t plan refl lt e))
      ∙ sym (ap (λ o. unfinished_in (slice_get ps t) o s) (slice_get_read all (length all) t x refl less f))

  pub none_there : (plan : Option Plan) (x xs : List Standing) (from : ℕ) → t < length ps → t < length all → plan ≡ get_or ps t plan → x ≡ get_or all t x → xs ≡ x → NoneBelow from (unfinished_in (slice_get ps t) (slice_get all t)) → NoneBelow from (unfinished_in (Some plan) (Some xs))
  none_there plan x xs from lt less e f g h s below = is_there plan x xs lt less e f g s ∙ h s below

  pub first_there : (plan : Option Plan) (x xs : List Standing) (o : Option ℕ) → t < length ps → t < length all → plan ≡ get_or ps t plan → x ≡ get_or all t x → xs ≡ x → IsFirst (unfinished_in (Some plan) (Some xs)) o → IsFirst (unfinished_in (slice_get ps t) (slice_get all t)) o
  first_there plan x xs None lt less e f g i = λ s. sym (is_there plan x xs lt less e f g s) ∙ i s
  first_there plan x xs (Some n) lt less e f g i = ((λ s below. sym (is_there plan x xs lt less e f g s) ∙ i.0 s below), sym (is_there plan x xs lt less e f g n) ∙ i.1)

pub no_plan : (ps : List (Option Plan)) (all : List (List Standing)) (t : ℕ) → length ps ≤ t → IsFirst (unfinished_in (slice_get ps t) (slice_get all t)) None
no_plan ps all t le = λ s. ap (λ o. unfinished_in o (slice_get all t) s) (no_more ps t le)

pub no_standings : (ps : List (Option Plan)) (all : List (List Standing)) (t : ℕ) → length all ≤ t → IsFirst (unfinished_in (slice_get ps t) (slice_get all t)) None
no_standings ps all t le = λ s. ap (λ o. unfinished_in (slice_get ps t) o s) (no_more all t le) ∙ in_none (slice_get ps t) s

-- where another session makes its turn, it stays so
pub passed_still : (ps : List (Option Plan)) (all later : List (List Standing)) (cursor : Cursor) (t s : ℕ) → HasPassed ps all cursor → unfinished_in (slice_get ps t) (slice_get all t) s ≡ true → OthersStay ps (t, s) all later → HasPassed ps later cursor
passed_still ps all later cursor t s h unfinished others u r before =
    others u r (λ a b. true_false (sym unfinished ∙ ap (λ n. unfinished_in (slice_get ps n) (slice_get all n) s) (sym a) ∙ ap (unfinished_in (slice_get ps u) (slice_get all u)) (sym b) ∙ h u r before)) ∙ h u r before
