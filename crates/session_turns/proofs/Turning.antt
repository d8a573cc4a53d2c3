-- Turns of a session, move by move.
use Rattle.std.proofs.Common.{arith, ◌≡◌, ◌⊎◌, inl, inr, refl, sym, ap, subst, ◌∙◌, ℕ, zero, suc, ◌+◌, ◌<◌, ◌≤◌, eqb, Bool, true, false, List, [], ◌∷◌, ◌++◌, append_assoc, append-nil, Option, None, Some}
use Rattle.std.specs.Prelude.{slice_get, slice_set}
use Rattle.std.proofs.lemmas.Bool.{eq-eqb, eqb-true}
use Rattle.apex_requests.specs.declared.reply.Event.{Event}
use Rattle.apex_requests.specs.declared.reply.EventKind.{EventKind}
use Rattle.apex_requests.specs.declared.request.Ticket.{Ticket}
use Rattle.apex_requests.specs.declared.request.Work.{Work}
use Rattle.apex_rows.specs.declared.query.Answer.{Answer}
use Rattle.apex_schema.specs.declared.schema.Schema.{Schema}
use Rattle.legal_trails.specs.Legal.{Session, State}
use Rattle.legal_trails.specs.Turns.{Finishes, Moves, Turn, TurnBy, Turning, events_of, is_last, is_open}
use Rattle.stack_code.specs.declared.image.Image.{Image}
use Rattle.tenant_parts.specs.declared.part.TenantPart.{TenantPart}
use Rattle.tenant_shards.specs.declared.log.Log.{Log}
use Rattle.tenant_shards.specs.Parts.{tenant_of}
use Rattle.tenant_shards.specs.Shards.{Shared}
use Rattle.tenant_shards.specs.Tenants.{part_at, sessions_at, trail_in}
use Rattle.session_turns.specs.Calls.{Beside, IsClosed, IsOn, IsRunSoFar, MovesFrom, MovesSo, closed_session, open_session}
use Rattle.session_turns.specs.declared.attempt.Attempt.{Attempt}
use Rattle.session_turns.specs.declared.attempt.Served.TheVariants.{Waits, Restarted, Closed}
use Rattle.session_turns.specs.declared.attempt.Served.{Served}
use Rattle.session_turns.specs.Turns.{FinishesFrom, FinishesSo, IsAfter, IsServed, IsTried, TurnsFrom, TurnsSo, tape_behind}

-- ---- lists of tapes

none_some : {A : Type 0} {a : A} → ◌≡◌ {A = Option A} None (Some a) → ⊥
none_some e = cc

some_is : {A : Type 0} {a b : A} → Some a ≡ Some b → a ≡ b
some_is e = cc

pub set_there : {A : Type 0} (xs : List A) (i : ℕ) (x y : A) → slice_get xs i ≡ Some x → slice_get (slice_set xs i y) i ≡ Some y
set_there [] i x y e = absurd (none_some e)
set_there (z ∷ xs) zero x y e = refl
set_there (z ∷ xs) (suc i) x y e = set_there xs i x y e

pub set_twice : {A : Type 0} (xs : List A) (i : ℕ) (x y : A) → slice_set (slice_set xs i x) i y ≡ slice_set xs i y
set_twice [] i x y = refl
set_twice (z ∷ xs) zero x y = refl
set_twice (z ∷ xs) (suc i) x y = ap (λ more. z ∷ more) (set_twice xs i x y)

pub set_as_it_is : {A : Type 0} (xs : List A) (i : ℕ) (x : A) → slice_get xs i ≡ Some x → slice_set xs i x ≡ xs
set_as_it_is [] i x e = refl
set_as_it_is (z ∷ xs) zero x e = ap (λ y. y ∷ xs) (sym (some_is e))
set_as_it_is (z ∷ xs) (suc i) x e = ap (λ more. z ∷ more) (set_as_it_is xs i x e)

-- ---- which sessions are open

module _ (image : Image) (tenant s : ℕ) where
  in_state : (part : TenantPart) (shard : Shared) (st : State) (at : Session) → IsRunSoFar image part tenant shard st → slice_get (sessions_at tenant shard.tenants) s ≡ Some at → slice_get st.sessions s ≡ Some at
  in_state part shard st at so_far e = ap (λ ss. slice_get ss s) so_far.sessions ∙ e

  -- ---- a turn of one move

  by_move : (before after : Shared) (tape later : List Answer) (at : Session) → slice_get (sessions_at tenant before.tenants) s ≡ Some at → is_last (Some at) ≡ false → MovesSo image tenant s tape later before after → TurnsSo image tenant s tape later before after
  by_move before after tape later at is not_last m = record {
    events = events_of s m.kind;
    entries = m.entries;
    from = λ part e st so_far.
        let f = m.from part e st so_far in
        record {
          next = f.next;
          so_far = f.so_far;
          turn = λ tapes there.
              subst (λ b. TurnBy (tenant_of part) b s (record { state = st; tapes = tapes }) (events_of s m.kind) (record { state = f.next; tapes = slice_set tapes s later }))
              (sym (ap is_last (in_state part before st at so_far is) ∙ not_last)) (m.kind, f.moves tapes there, refl);
        };
  }

  pub by_first_move : (before after : Shared) (later : List Answer) (i : ℕ) → IsClosed tenant s i before → MovesSo image tenant s [] later before after → TurnsSo image tenant s [] later before after
  by_first_move before after later i closed m = by_move before after [] later (closed_session i) closed.session refl m

  pub by_next_move : (before after : Shared) (tape later : List Answer) (i grabs restarts : ℕ) (moved : Bool) → slice_get (sessions_at tenant before.tenants) s ≡ Some (open_session i grabs restarts moved) → (restarts ≡ 3 → ⊥) → MovesSo image tenant s tape later before after → TurnsSo image tenant s tape later before after
  by_next_move before after tape later i grabs restarts moved is few m = by_move before after tape later (open_session i grabs restarts moved) is (apart restarts 3 few) m where
    apart : (a b : ℕ) → (a ≡ b → ⊥) → eqb a b ≡ false
    apart a b n = by (eqb a b) refl where
      by : (c : Bool) → eqb a b ≡ c → eqb a b ≡ false
      by true e = absurd (n (eqb-true a b e))
      by false e = e

  -- ---- a turn to the end

  pub by_finish : (before after : Shared) (tape : List Answer) (i grabs restarts : ℕ) (moved : Bool) → slice_get (sessions_at tenant before.tenants) s ≡ Some (open_session i grabs restarts moved) → restarts ≡ 3 → FinishesSo image tenant s tape before after → TurnsSo image tenant s tape [] before after
  by_finish before after tape i grabs restarts moved is last f = record {
    events = f.events;
    entries = f.entries;
    from = λ part e st so_far.
        let g = f.from part e st so_far in
        record {
          next = g.next;
          so_far = g.so_far;
          turn = λ tapes there.
              subst (λ b. TurnBy (tenant_of part) b s (record { state = st; tapes = tapes }) f.events (record { state = g.next; tapes = slice_set tapes s [] }))
              (sym (ap is_last (in_state part before st (open_session i grabs restarts moved) so_far is) ∙ eq-eqb restarts 3 last)) (g.finishes tapes there);
        };
  }

  -- so far on the way to the end, whatever comes behind
  pub record OnTheWay (part : TenantPart) (first tape : List Answer) (events : List Event) (shard : Shared) (st : State) : Type 0 where
    pub mid : State
    pub so_far : IsRunSoFar image part tenant shard mid
    pub onward : (tapes : List (List Answer)) → slice_get tapes s ≡ Some first → (n : ℕ) (rest : List Event) (after : Turning) → Finishes (tenant_of part) n s (record { state = mid; tapes = slice_set tapes s tape }) rest after →
        (m : ℕ) × Finishes (tenant_of part) m s (record { state = st; tapes = tapes }) (events ++ rest) after

  pub record IsOnTheWay (first tape : List Answer) (start shard : Shared) : Type 0 where
    pub beside : Beside tenant s start shard
    pub events : List Event
    pub entries : trail_in tenant shard.entries ≡ trail_in tenant start.entries ++ events
    pub from : (part : TenantPart) → part_at tenant start.tenants ≡ Some part → (st : State) → IsRunSoFar image part tenant start st → OnTheWay part first tape events shard st

  pub first_way : (tape : List Answer) (start : Shared) → Beside tenant s start start → IsOnTheWay tape tape start start
  first_way tape start beside = record {
    beside = beside;
    events = [];
    entries = sym (append-nil (trail_in tenant start.entries));
    from = λ part e st so_far. record {
      mid = st;
      so_far = so_far;
      onward = λ tapes there n rest after f. (n, subst (λ ts. Finishes (tenant_of part) n s (record { state = st; tapes = ts }) rest after) (set_as_it_is tapes s tape there) f);
    };
  }

  -- one move more
  way_on : (part : TenantPart) (first tape later : List Answer) (events : List Event) (shard after : Shared) (st : State) (at : Session) → slice_get (sessions_at tenant shard.tenants) s ≡ Some at → is_open (Some at) ≡ true → (w : OnTheWay part first tape events shard st) (kind : Option EventKind) →
      MovesFrom part image tenant s tape kind later after w.mid → OnTheWay part first later (events ++ events_of s kind) after st
  way_on part first tape later events shard after st at is opened w kind m = record {
    mid = m.next;
    so_far = m.so_far;
    onward = λ tapes there n rest end f.
        let here : Turning = record { state = w.mid; tapes = slice_set tapes s tape } in
        let then : Turning = record { state = m.next; tapes = slice_set tapes s later } in
        let moves : Moves (tenant_of part) s here kind then =
        subst (λ ts. Moves (tenant_of part) s here kind (record { state = m.next; tapes = ts })) (set_twice tapes s tape later) (m.moves (slice_set tapes s tape) (set_there tapes s first tape there))
        in
        let more : Finishes (tenant_of part) (suc n) s here (events_of s kind ++ rest) end = (
          ap is_open (in_state part shard w.mid at w.so_far is) ∙ opened,
          (kind, then, rest, moves, f, refl),
        ) in
        let h = w.onward tapes there (suc n) (events_of s kind ++ rest) end more in
        (h.0, subst (λ es. Finishes (tenant_of part) h.0 s (record { state = st; tapes = tapes }) es end) (sym (append_assoc events (events_of s kind) rest)) h.1);
  }

  pub one_more : (first tape later : List Answer) (start shard after : Shared) (i grabs restarts : ℕ) (moved : Bool) → slice_get (sessions_at tenant shard.tenants) s ≡ Some (open_session i grabs restarts moved) → IsOnTheWay first tape start shard → MovesSo image tenant s tape later shard after → Beside tenant s start after → IsOnTheWay first later start after
  one_more first tape later start shard after i grabs restarts moved is w m beside = record {
    beside = beside;
    events = w.events ++ events_of s m.kind;
    entries = m.entries ∙ ap (λ es. es ++ events_of s m.kind) w.entries ∙ append_assoc (trail_in tenant start.entries) w.events (events_of s m.kind);
    from = λ part e st so_far.
        let v = w.from part e st so_far in
        way_on part first tape later w.events shard after st (open_session i grabs restarts moved) is refl v m.kind (m.from part (w.beside.keeps.part ∙ e) v.mid v.so_far);
  }

  pub is_over : (first : List Answer) (start after : Shared) (i : ℕ) → IsClosed tenant s i after → IsOnTheWay first [] start after → FinishesSo image tenant s first start after
  is_over first start after i closed w = record {
    events = w.events;
    entries = w.entries;
    from = λ part e st so_far.
        let v = w.from part e st so_far in
        record {
          next = v.mid;
          so_far = v.so_far;
          finishes = λ tapes there.
              let end : Turning = record { state = v.mid; tapes = slice_set tapes s [] } in
              let h = v.onward tapes there 0 [] end (ap is_open (in_state part after v.mid (closed_session i) v.so_far closed.session), refl, refl) in
              (h.0, subst (λ es. Finishes (tenant_of part) h.0 s (record { state = st; tapes = tapes }) es end) (append-nil w.events) h.1);
        };
  }

-- ---- the turn of an open request

module _ (schema : Schema) (image : Image) (ticket : Ticket) (work : Work) (tenant : ℕ) (a : Attempt) (shard : Shared) (tried : IsTried schema image ticket work tenant a shard) where
  pub one_move : (later : List Answer) (after : Shared) → (a.restarts ≡ 3 → ⊥) → MovesSo image tenant ticket.session a.log.answers later shard after → TurnsSo image tenant ticket.session a.log.answers later shard after
  one_move later after few m = by_next_move image tenant ticket.session shard after a.log.answers later ticket.index _ a.restarts tried.on.moved tried.on.session few m

  pub to_the_end : (after : Shared) → a.restarts ≡ 3 → FinishesSo image tenant ticket.session a.log.answers shard after → TurnsSo image tenant ticket.session a.log.answers [] shard after
  to_the_end after last f = by_finish image tenant ticket.session shard after a.log.answers ticket.index _ a.restarts tried.on.moved tried.on.session last f

  -- at least three times are three times
  pub three : 3 ≤ a.restarts → a.restarts ≡ 3
  three least = same a.restarts least tried.on.few where
    same : (n : ℕ) → 3 ≤ n → n ≤ 3 → n ≡ 3
    same n least most = omega (arith, least, most)

  pub fewer : a.restarts < 3 → a.restarts ≡ 3 → ⊥
  fewer lt e = not_both a.restarts lt e where
    not_both : (n : ℕ) → n < 3 → n ≡ 3 → ⊥
    not_both n lt e = omega (arith, lt, e)

  -- behind one move: it waits, or has begun again
  pub waits : (b : Attempt) (after : Shared) → a.restarts < 3 → IsServed schema image ticket work tenant a shard b after Waits → IsAfter schema image ticket work tenant b after false
  waits b after lt h = (h.0, λ e. absurd (fewer lt (sym h.1 ∙ e)))

  pub restarted : (b : Attempt) (after : Shared) → IsServed schema image ticket work tenant a shard b after Restarted → IsAfter schema image ticket work tenant b after false
  restarted b after h = (h.1, λ e. h.2)

  pub restarted_tape : (b : Attempt) (after : Shared) → IsServed schema image ticket work tenant a shard b after Restarted → b.log.answers ≡ []
  restarted_tape b after h = h.2.1

  -- whichever of the two
  pub either : (b : Attempt) (after : Shared) (s : Served) → a.restarts < 3 → (s ≡ Waits) ⊎ (s ≡ Restarted) → IsServed schema image ticket work tenant a shard b after s → MovesSo image tenant ticket.session a.log.answers (tape_behind s b.log) shard after →
      IsAfter schema image ticket work tenant b after false × MovesSo image tenant ticket.session a.log.answers b.log.answers shard after
  either b after Waits lt e h m = (waits b after lt h, m)
  either b after Restarted lt e h m = (restarted b after h, subst (λ tape. MovesSo image tenant ticket.session a.log.answers tape shard after) (sym (restarted_tape b after h)) m)
  either b after Closed lt (inl e) h m = cc
  either b after Closed lt (inr e) h m = cc
