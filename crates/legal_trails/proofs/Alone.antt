-- A tenant with one session.
use Rattle.std.proofs.Common.{◌≡◌, refl, ap, sym, subst, ◌∙◌, ℕ, zero, suc, Bool, true, false, cond, List, [], ◌∷◌, map, Option, None, Some}
use Rattle.std.specs.Prelude.{slice_get, slice_set}
use Rattle.apex_requests.specs.declared.reply.Event.{Event}
use Rattle.apex_requests.specs.declared.reply.EventKind.{EventKind}
use Rattle.apex_requests.specs.declared.reply.EventKind.TheVariants.{Start, Grab, Refuse, Restart, End}
use Rattle.row_locks.specs.Holders.{Holders, FirstHeld, but, first_here}
use Rattle.row_meaning.specs.Stores.{has_id}
use Rattle.tenant_trails.specs.Runs.{Tenant}
use Rattle.legal_trails.specs.Legal.{Session, State, Changes, Frees, holder, closing, tell, Meets, LegalFrom, Legal}
use Rattle.legal_trails.specs.Laws.{NotRefused, NoneRefused}

pub record Alone (st : State) : Type 0 where
  pub only : Session
  pub is : st.sessions ≡ only ∷ []
  pub held : (id : List ℕ) → but 0 (holder st.held id) ≡ None

never_held : (held : Holders) → ((id : List ℕ) → but 0 (held id) ≡ None) → (ids : List (List ℕ)) (row : List ℕ) (by : ℕ) → FirstHeld held 0 ids row by → ⊥
never_held held n [] row by h = h
never_held held n (i ∷ is) row by h = never_held held n is row by (subst (λ o. first_here o i row by (FirstHeld held 0 is row by)) (n i) h)

only_first : (x session : Session) (s : ℕ) → slice_get (x ∷ []) s ≡ Some session → s ≡ 0
only_first x session zero h = refl
only_first x session (suc n) h = absurd (cc)

set_alone : (x y : Session) (s : ℕ) → s ≡ 0 → slice_set (x ∷ []) s y ≡ y ∷ []
set_alone x y s e = ap (λ k. slice_set (x ∷ []) k y) e

tell_alone : (b : Bool) (y : Session) (s : ℕ) → s ≡ 0 → tell b s (y ∷ []) ≡ y ∷ []
tell_alone true y s e = ap (λ k. tell true k (y ∷ [])) e
tell_alone false y s e = refl

free_alone : (s : ℕ) (o : Option ℕ) → s ≡ 0 → but 0 o ≡ None → but 0 (but s o) ≡ None
free_alone s o e n = ap (λ k. but 0 (but k o)) e ∙ ap (but 0) n

take_alone : (b : Bool) (s : ℕ) (o : Option ℕ) → s ≡ 0 → but 0 o ≡ None → but 0 (cond b (Some s) o) ≡ None
take_alone true s o e n = ap (λ k. but 0 (Some k)) e
take_alone false s o e n = n

module _ (tenant : Tenant) where
  stays : (st after : State) (s : ℕ) (y : Session) → Alone st → s ≡ 0 → Changes s y st after → ((id : List ℕ) → but 0 (holder after.held id) ≡ None) → Alone after
  stays st after s y a e c h = record { only = y; is = c.sessions ∙ ap (λ sessions. slice_set sessions s y) a.is ∙ set_alone a.only y s e; held = h }

  frees : (st after : State) (s : ℕ) → Alone st → s ≡ 0 → Frees s st.held after.held → (id : List ℕ) → but 0 (holder after.held id) ≡ None
  frees st after s a e f id = ap (but 0) (f id) ∙ free_alone s (holder st.held id) e (a.held id)

  one : (k : EventKind) (st after : State) (s : ℕ) (session : Session) → Alone st → s ≡ 0 → Meets tenant k st s session after → NotRefused k × Alone after
  one (Start i) st after s session a e m = (tt, stays st after s _ a e m.changes (λ id. ap (but 0) (m.held id) ∙ a.held id))
  one Grab st after s session a e m = (tt, stays st after s _ a e m.changes (λ id. ap (but 0) (m.held id) ∙ take_alone (has_id m.ids id) s (holder st.held id) e (a.held id)))
  one (Refuse row by) st after s session a e m = absurd (never_held (holder st.held) a.held m.ids row by (subst (λ k. FirstHeld (holder st.held) k m.ids row by) e m.first))
  one Restart st after s session a e m = (tt, stays st after s _ a e m.changes (frees st after s a e m.held))
  one (End reply) st after s session a e m = (
    tt,
    record {
      only = closing session;
      is = m.sessions ∙ ap (tell _ s) (ap (λ sessions. slice_set sessions s (closing session)) a.is ∙ set_alone a.only (closing session) s e) ∙ tell_alone _ (closing session) s e;
      held = frees st after s a e m.held;
    },
  )

  none_refused : (trail : List Event) (st after : State) → Alone st → LegalFrom tenant st trail after → NoneRefused trail
  none_refused [] st after a l = tt
  none_refused (e ∷ es) st after a l =
      let first = only_first a.only l.1.session e.session (sym (ap (λ sessions. slice_get sessions e.session) a.is) ∙ l.1.is_session) in
      let here = one e.kind st l.0 e.session l.1.session a first l.1.meets in
      (here.0, none_refused es l.0 after here.1 l.2)

  pub never_refused : (n : ℕ) (trail : List Event) → tenant.requests ≡ n ∷ [] → Legal tenant trail → NoneRefused trail
  never_refused n trail e l = none_refused trail _ l.after (record { only = record { closed = 0; running = None }; is = ap (map (λ (k : ℕ). record { closed = 0; running = None })) e; held = λ id. refl }) l.is
