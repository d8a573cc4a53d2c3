-- Trails that are made turn by turn.
use Rattle.std.proofs.Common.{◌≡◌, refl, sym, ap, subst, ◌∙◌, ℕ, zero, suc, eqb, cond, Bool, true, false, List, [], ◌∷◌, ◌++◌, append_assoc, append-nil, filter, map, Option, None, Some}
use Rattle.std.specs.Prelude.{slice_get, slice_set}
use Rattle.std.proofs.lemmas.Bool.{eqb-true, eqb-false}
use Rattle.apex_requests.specs.declared.reply.Event.{Event}
use Rattle.apex_requests.specs.declared.reply.EventKind.{EventKind}
use Rattle.tenant_trails.specs.Runs.{Tenant}
use Rattle.legal_trails.specs.Legal.{LegalFrom, State}
use Rattle.legal_trails.specs.Turns.{Finishes, Happens, IsTurned, TurnBy, Turning, Turns, events_of, first_turning, is_last}
use Rattle.legal_trails.specs.Served.{Pick, Place, RunsOut, Serves, ServesBy, Stage, TurnsAt, first_stage, own, picked, placed}
use Rattle.legal_trails.specs.TurnLaws.{ServedIsTurned, TurnsAreLegal}

-- ---- they are legal

module _ (tenant : Tenant) where
  append_legal : (front rest : List Event) (a b c : State) → LegalFrom tenant a front b → LegalFrom tenant b rest c → LegalFrom tenant a (front ++ rest) c
  append_legal [] rest a b c l m = subst (λ x. LegalFrom tenant x rest c) l m
  append_legal (e ∷ front) rest a b c l m = (l.0, l.1, append_legal front rest l.0 b c l.2 m)

  happens_legal : (s : ℕ) (kind : Option EventKind) (st after : State) → Happens tenant st s kind after → LegalFrom tenant st (events_of s kind) after
  happens_legal s None st after h = h
  happens_legal s (Some kind) st after h = (after, h, refl)

  finishes_legal : (n s : ℕ) (before : Turning) (events : List Event) (after : Turning) → Finishes tenant n s before events after → LegalFrom tenant before.state events after.state
  finishes_legal zero s before events after f = subst (λ es. LegalFrom tenant before.state es after.state) (sym f.1) (ap (λ (x : Turning). x.state) f.2)
  finishes_legal (suc n) s before events after f =
      subst (λ es. LegalFrom tenant before.state es after.state) (sym f.1.5)
      (append_legal (events_of s f.1.0) f.1.2 before.state f.1.1.state after.state (happens_legal s f.1.0 before.state f.1.1.state f.1.3.happens) (finishes_legal n s f.1.1 f.1.2 after f.1.4))

  turn_legal : (b : Bool) (s : ℕ) (before : Turning) (events : List Event) (after : Turning) → TurnBy tenant b s before events after → LegalFrom tenant before.state events after.state
  turn_legal false s before events after t = subst (λ es. LegalFrom tenant before.state es after.state) (sym t.2) (happens_legal s t.0 before.state after.state t.1.happens)
  turn_legal true s before events after t = finishes_legal t.0 s before events after t.1

  turns_legal : (ss : List ℕ) (before : Turning) (events : List Event) (after : Turning) → Turns tenant ss before events after → LegalFrom tenant before.state events after.state
  turns_legal [] before events after t = subst (λ es. LegalFrom tenant before.state es after.state) (sym t.0) (ap (λ (x : Turning). x.state) t.1)
  turns_legal (s ∷ ss) before events after t =
      subst (λ es. LegalFrom tenant before.state es after.state) (sym t.5)
      (append_legal t.0 t.2 before.state t.1.state after.state (turn_legal (is_last (slice_get before.state.sessions s)) s before t.0 t.1 t.3) (turns_legal ss t.1 t.2 after t.4))

pub turns_are_legal : TurnsAreLegal
turns_are_legal tenant sessions trail t = record { after = t.after.state; is = turns_legal tenant sessions (first_turning tenant) trail t.after t.turns }

-- ---- each tenant's are its own

some_is : {A : Type 0} {a b : A} → Some a ≡ Some b → a ≡ b
some_is e = cc

none_some : {A : Type 0} {a : A} → ◌≡◌ {A = Option A} None (Some a) → ⊥
none_some e = cc

set_same : {A : Type 0} (xs : List A) (i : ℕ) (x y : A) → slice_get xs i ≡ Some x → slice_get (slice_set xs i y) i ≡ Some y
set_same [] i x y e = absurd (none_some e)
set_same (z ∷ xs) zero x y e = refl
set_same (z ∷ xs) (suc i) x y e = set_same xs i x y e

set_other : {A : Type 0} (xs : List A) (i j : ℕ) (y : A) → (i ≡ j → ⊥) → slice_get (slice_set xs i y) j ≡ slice_get xs j
set_other [] i j y e = refl
set_other (z ∷ xs) zero zero y e = absurd (e refl)
set_other (z ∷ xs) zero (suc j) y e = refl
set_other (z ∷ xs) (suc i) zero y e = refl
set_other (z ∷ xs) (suc i) (suc j) y e = set_other xs i j y (λ q. e (ap suc q))

-- a tenant went on from one place to another by these turns
pub record GoesOn (before : Stage) (t : ℕ) (sessions : List ℕ) (place : Place) : Type 0 where
  pub from : Place
  pub is : slice_get before t ≡ Some (Some from)
  pub same : place.tenant ≡ from.tenant
  pub events : List Event
  pub turns : Turns from.tenant sessions from.turning events place.turning
  pub trail : place.trail ≡ from.trail ++ events

stays : (before : Stage) (t : ℕ) (place : Place) → slice_get before t ≡ Some (Some place) → GoesOn before t [] place
stays before t place is = record { from = place; is = is; same = refl; events = []; turns = (refl, refl); trail = sym (append-nil place.trail) }

own_more : (pick : Pick) (picks : List Pick) (t : ℕ) (b : Bool) → eqb pick.0 t ≡ b → own t (pick ∷ picks) ≡ cond b (pick.1 ∷ own t picks) (own t picks)
own_more pick picks t true e = ap (λ b. map (λ (p : Pick). p.1) (cond b (pick ∷ filter (λ (p : Pick). eqb p.0 t) picks) (filter (λ (p : Pick). eqb p.0 t) picks))) e
own_more pick picks t false e = ap (λ b. map (λ (p : Pick). p.1) (cond b (pick ∷ filter (λ (p : Pick). eqb p.0 t) picks) (filter (λ (p : Pick). eqb p.0 t) picks))) e

one_turn : (pick : Pick) (before mid : Stage) (rest : List Pick) (t : ℕ) (place : Place) → TurnsAt pick before mid → GoesOn mid t (own t rest) place → GoesOn before t (own t (pick ∷ rest)) place
one_turn pick before mid rest t place at g = by (eqb pick.0 t) refl where
  by : (b : Bool) → eqb pick.0 t ≡ b → GoesOn before t (own t (pick ∷ rest)) place
  by false e =
      subst (λ ss. GoesOn before t ss place) (sym (own_more pick rest t false e))
      (record { from = g.from; is = sym (ap (λ st. slice_get st t) at.then ∙ set_other before pick.0 t _ (eqb-false pick.0 t e)) ∙ g.is; same = g.same; events = g.events; turns = g.turns; trail = g.trail })
  by true e =
      let same : pick.0 ≡ t = eqb-true pick.0 t e in
      let moved : Place = record { tenant = at.place.tenant; turning = at.turning; trail = at.place.trail ++ at.events } in
      let here : slice_get mid t ≡ Some (Some moved) = ap (λ n. slice_get mid n) (sym same) ∙ ap (λ st. slice_get st pick.0) at.then ∙ set_same before pick.0 (Some at.place) (Some moved) at.is_place in
      let is : moved ≡ g.from = some_is (some_is (sym here ∙ g.is)) in
      subst (λ ss. GoesOn before t ss place) (sym (own_more pick rest t true e))
      (record {
        from = at.place;
        is = ap (λ n. slice_get before n) (sym same) ∙ at.is_place;
        same = g.same ∙ sym (ap (λ (p : Place). p.tenant) is);
        events = at.events ++ g.events;
        turns = (at.events, at.turning, g.events, at.turn, subst (λ (p : Place). Turns p.tenant (own t rest) p.turning g.events place.turning) (sym is) g.turns, refl);
        trail = g.trail ∙ ap (λ (p : Place). p.trail ++ g.events) (sym is) ∙ append_assoc at.place.trail at.events g.events;
      })

runs_out : (n : ℕ) (before : Stage) (picks : List Pick) (after : Stage) → RunsOut n before picks after → (t : ℕ) (place : Place) → slice_get after t ≡ Some (Some place) → GoesOn before t (own t picks) place
runs_out zero before picks after r t place is = subst (λ ps. GoesOn before t (own t ps) place) (sym r.1) (stays before t place (ap (λ st. slice_get st t) (sym r.2) ∙ is))
runs_out (suc n) before picks after r t place is =
    subst (λ ps. GoesOn before t (own t ps) place) (sym r.6) (one_turn r.0 before r.2 r.3 t place r.4 (runs_out n r.2 r.3 after r.5 t place is))

serves_by : (o : Option Pick) (before : Stage) (picks : List Pick) (after : Stage) (later : Stage → List Pick → Type 0) (t : ℕ) (place : Place) →
    ((mid : Stage) (rest : List Pick) → later mid rest → GoesOn mid t (own t rest) place) → slice_get after t ≡ Some (Some place) → ServesBy o before picks after later → GoesOn before t (own t picks) place
serves_by None before picks after later t place on is s = subst (λ ps. GoesOn before t (own t ps) place) (sym s.0) (stays before t place (ap (λ st. slice_get st t) (sym s.1) ∙ is))
serves_by (Some pick) before picks after later t place on is s =
    subst (λ ps. GoesOn before t (own t ps) place) (sym s.4) (one_turn pick before s.0 s.1 t place s.2 (on s.0 s.1 s.3))

serves : (turns : List Pick) (before : Stage) (picks : List Pick) (after : Stage) → Serves turns before picks after → (t : ℕ) (place : Place) → slice_get after t ≡ Some (Some place) → GoesOn before t (own t picks) place
serves [] before picks after s t place is = runs_out s.0 before picks after s.1 t place is
serves (turn ∷ turns) before picks after s t place is =
    serves_by (picked before turn) before picks after (λ mid rest. Serves turns mid rest after) t place (λ mid rest later. serves turns mid rest after later t place is) is s

placed_from : (o : Option Tenant) (place : Place) → placed o ≡ Some place → (o ≡ Some place.tenant) × (place.turning ≡ first_turning place.tenant) × (place.trail ≡ [])
placed_from None place e = absurd (none_some e)
placed_from (Some tenant) place e =
    let is = some_is e in
    (ap (λ (p : Place). Some p.tenant) is, ap (λ (p : Place). p.turning) (sym is) ∙ ap (λ (p : Place). first_turning p.tenant) is, ap (λ (p : Place). p.trail) (sym is))

at_first : (tenants : List (Option Tenant)) (t : ℕ) (place : Place) → slice_get (first_stage tenants) t ≡ Some (Some place) → (slice_get tenants t ≡ Some (Some place.tenant)) × (place.turning ≡ first_turning place.tenant) × (place.trail ≡ [])
at_first [] t place e = absurd (none_some e)
at_first (o ∷ os) zero place e = let p = placed_from o place (some_is e) in (ap Some p.0, p.1, p.2)
at_first (o ∷ os) (suc t) place e = at_first os t place e

pub served_is_turned : ServedIsTurned
served_is_turned tenants turns picks after s t place is =
    let g = serves turns (first_stage tenants) picks after s t place is in
    let f = at_first tenants t g.from g.is in (
      f.0 ∙ ap (λ x. Some (Some x)) (sym g.same),
      subst (λ x. IsTurned x (own t picks) place.trail) (sym g.same)
          (record {
            after = place.turning;
            turns = subst (λ x. Turns g.from.tenant (own t picks) x place.trail place.turning) f.1 (subst (λ es. Turns g.from.tenant (own t picks) g.from.turning es place.turning) (sym (g.trail ∙ ap (λ front. front ++ g.events) f.2)) g.turns);
          }),
    )
