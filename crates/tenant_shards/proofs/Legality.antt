-- What happens keeps every trail legal.
use Rattle.std.proofs.Common.{◌≡◌, ◌<◌, refl, sym, ap, subst, ◌∙◌, ℕ, eqb, cond, Bool, true, false, List, [], ◌∷◌, ◌++◌, Some}
use Rattle.std.specs.Prelude.{slice_get, slice_set}
use Rattle.std.proofs.lemmas.Bool.{eqb-true, eqb-false}
use Rattle.apex_requests.specs.declared.reply.Event.{Event}
use Rattle.apex_requests.specs.declared.reply.EventKind.{EventKind}
use Rattle.apex_requests.specs.declared.reply.EventKind.TheVariants.{Start, Grab, Refuse, Restart, End}
use Rattle.apex_requests.specs.declared.reply.Reply.{Reply}
use Rattle.apex_rows.specs.declared.row.Row.{Row}
use Rattle.apex_rows.specs.declared.row.Writes.{Writes}
use Rattle.record_store.specs.Heaps.{rows_in}
use Rattle.row_locks.specs.Holders.{FirstHeld, Holders, NoneHeld, but}
use Rattle.row_locks.specs.Locks.{holder_of}
use Rattle.row_meaning.specs.Stores.{has_id, taken}
use Rattle.session_states.specs.States.{begins_in, grants_in}
use Rattle.legal_trails.specs.Legal.{LegalFrom, LegalTo, Session, State, Step, begun, first_state, holder, is_by, some_writes}
use Rattle.tenant_trails.specs.Runs.{Follows, Tenant, grabs_on}
use Rattle.tenant_shards.specs.declared.change.Change.{Change}
use Rattle.tenant_shards.specs.declared.change.Change.TheVariants.{Starts, Grabs, Restarts, Closes}
use Rattle.tenant_shards.specs.declared.kept.Kept.{Kept}
use Rattle.tenant_shards.specs.declared.log.Log.{Log}
use Rattle.tenant_shards.specs.Changes.{changed}
use Rattle.tenant_shards.specs.Logs.{IsCurrent}
use Rattle.tenant_shards.specs.Parts.{tenant_of}
use Rattle.tenant_shards.specs.Shards.{Happens, IsLegal, IsSession, IsSound, Keeps, MayEnd, MayGrab, MayRestart, MayStart, Shared, freed, holding, run_of}
use Rattle.tenant_shards.specs.Tenants.{AreKept, Differ, kept_at, part_at, sessions_at, sessions_in, trail_in}
use Rattle.tenant_shards.proofs.Asked.{follows, must_be}
use Rattle.tenant_shards.proofs.Holders.{held_in, held_is, none_as, first_as}
use Rattle.tenant_shards.proofs.Tenants.{all_kept, all_stay, part_is, trail_other, trail_own}

-- ---- where nothing changes

module _ (before after : Shared) where
  pub legal_still : (t : ℕ) (kept : Kept) → rows_in t after.rows ≡ rows_in t before.rows → ((id : List ℕ) → holder_of t after.locks id ≡ holder_of t before.locks id) → trail_in t after.entries ≡ trail_in t before.entries → IsLegal t kept before → IsLegal t kept after
  legal_still t kept rows held trail l = record {
    after = l.after;
    legal = subst (λ es. LegalTo (tenant_of kept.part) es l.after) (sym trail) l.legal;
    store = l.store ∙ sym rows;
    sessions = l.sessions;
    held = λ id. l.held id ∙ sym (held id);
  }

  pub sound_still : after.order ≡ before.order → ((n : ℕ) → kept_at n after.tenants ≡ kept_at n before.tenants) → ((n : ℕ) → rows_in n after.rows ≡ rows_in n before.rows) → ((n : ℕ) (id : List ℕ) → holder_of n after.locks id ≡ holder_of n before.locks id) → after.entries ≡ before.entries → IsSound before → IsSound after
  sound_still order kept rows held entries s = record {
    differ = subst Differ (sym order) s.differ;
    kept = subst (λ ns. AreKept ns after.tenants) (sym order) (all_kept before.tenants after.tenants kept before.order s.kept);
    legal = λ t k is. legal_still t k (rows t) (held t) (ap (trail_in t) entries) (s.legal t k (sym (kept t) ∙ is));
  }

-- ---- one event more

legal_more : (tenant : Tenant) (trail : List Event) (st mid after : State) (e : Event) → LegalFrom tenant st trail mid → Step tenant mid e after → LegalFrom tenant st (trail ++ e ∷ []) after
legal_more tenant [] st mid after e l step = (after, subst (λ x. Step tenant x e after) l step, refl)
legal_more tenant (f ∷ trail) st mid after e l step = (l.0, l.1, legal_more tenant trail l.0 mid after e l.2 step)

-- a tenant as the shard has it
abbrev pub state_at : ℕ → Shared → State
state_at t shard = record { store = rows_in t shard.rows; sessions = sessions_at t shard.tenants; held = held_in t shard.locks }

module _ (t : ℕ) (before after : Shared) (e : Event) (entries : after.entries ≡ before.entries ++ record { tenant = t; event = e } ∷ []) (keeps : Keeps t before after)
    (kept : Kept) (is_kept : kept_at t before.tenants ≡ Some kept) (step : (l : IsLegal t kept before) → Step (tenant_of kept.part) l.after e (state_at t after)) where
  own : (k : Kept) → kept_at t after.tenants ≡ Some k → IsSound before → IsLegal t k after
  own k is s =
      let l = s.legal t kept is_kept in
      let part = part_is (kept_at t before.tenants) (kept_at t after.tenants) kept k is_kept is keeps.part in
      record {
        after = state_at t after;
        legal = subst (λ p. LegalTo (tenant_of p) (trail_in t after.entries) (state_at t after)) (sym part)
            (subst (λ es. LegalTo (tenant_of kept.part) es (state_at t after)) (sym (ap (trail_in t) entries ∙ trail_own t before.entries e))
            (legal_more (tenant_of kept.part) (trail_in t before.entries) (first_state (tenant_of kept.part)) l.after (state_at t after) e l.legal (step l)));
        store = refl;
        sessions = ap sessions_in is;
        held = λ id. held_is t after.locks id;
      }

  all : (n : ℕ) (k : Kept) → kept_at n after.tenants ≡ Some k → IsSound before → IsLegal n k after
  all n k is s = by (eqb n t) refl where
    by : (b : Bool) → eqb n t ≡ b → IsLegal n k after
    by true q = let same : n ≡ t = eqb-true n t q in subst (λ m. IsLegal m k after) (sym same) (own k (ap (λ m. kept_at m after.tenants) (sym same) ∙ is) s)
    by false q =
        let other = eqb-false n t q in
        legal_still before after n k (keeps.others.rows n other) (keeps.others.held n other) (keeps.others.trail n other) (s.legal n k (sym (keeps.others.kept n other) ∙ is))

  pub sound_more : IsSound before → IsSound after
  sound_more s = record {
    differ = subst Differ (sym keeps.order) s.differ;
    kept = subst (λ ns. AreKept ns after.tenants) (sym keeps.order) (all_stay t before.tenants after.tenants keeps.part keeps.others.kept before.order s.kept);
    legal = λ n k is. all n k is s;
  }

-- ---- each event is a step

module _ (t s : ℕ) (before after : Shared) (is : IsSession before t s) (l : IsLegal t is.kept before) (kind : EventKind) (how : Change) (rows : List Row) (held : Holders) (h : Happens t s kind how rows held before after) where
  there : slice_get l.after.sessions s ≡ Some is.at
  there = ap (λ ss. slice_get ss s) l.sessions ∙ is.is_session

  sessions : sessions_at t after.tenants ≡ changed how s l.after.sessions is.at
  sessions =
      h.sessions is.at (ap (λ k. slice_get (sessions_in k) s) is.is_kept ∙ is.is_session)
      ∙ ap (λ ss. changed how s ss is.at) (ap sessions_in is.is_kept ∙ sym l.sessions)

  holders : (id : List ℕ) → holder (held_in t after.locks) id ≡ held id
  holders id = held_is t after.locks id ∙ h.held id

module _ (t s : ℕ) (before after : Shared) where
  pub start_step : (m : MayStart before t s) (i : ℕ) → i ≡ m.is.at.closed → Happens t s (Start i) Starts (rows_in t before.rows) (holder_of t before.locks) before after → (l : IsLegal t m.is.kept before) → Step (tenant_of m.is.kept.part) l.after (record { session = s; kind = Start i }) (state_at t after)
  start_step m i next h l = record {
    session = m.is.at;
    is_session = there t s before after m.is l _ _ _ _ h;
    meets = record {
      free = m.free;
      next = next;
      most = m.most;
      is_most = m.is_most;
      below = subst (λ n. n < m.most) (sym next) m.below;
      changes = record { store = h.rows ∙ sym l.store; sessions = sessions t s before after m.is l _ _ _ _ h ∙ ap (λ n. slice_set l.after.sessions s (record m.is.at { running = Some (begun n) })) (sym next) };
      held = λ id. holders t s before after m.is l _ _ _ _ h id ∙ sym (l.held id);
    };
  }

  pub grant_step : (log : Log) (ids : List (List ℕ)) (m : MayGrab before t s log ids) → IsCurrent (rows_in t before.rows) log → NoneHeld (holder_of t before.locks) s ids →
      Happens t s Grab Grabs (rows_in t before.rows) (holding s ids (holder_of t before.locks)) before after → (l : IsLegal t m.log_is.has.is.kept before) → Step (tenant_of m.log_is.has.is.kept.part) l.after (record { session = s; kind = Grab }) (state_at t after)
  grant_step log ids m current none h l = record {
    session = m.log_is.has.is.at;
    is_session = there t s before after m.log_is.has.is l _ _ _ _ h;
    meets = record {
      o = m.log_is.has.o;
      opened = m.log_is.has.opened;
      ids = ids;
      asks = record {
        tape = log.answers;
        follows = subst (λ rows. Follows rows (run_of m.log_is.has) [] log.answers) (sym l.store) (follows (rows_in t before.rows) (run_of m.log_is.has) [] log.asked log.answers m.log_is.asks current);
        asks = m.next;
        behind = m.log_is.grabs;
      };
      none = none_as (holder_of t before.locks) (holder l.after.held) l.held s ids none;
      changes = record {
        store = h.rows ∙ sym l.store;
        sessions = sessions t s before after m.log_is.has.is l _ _ _ _ h ∙ ap (λ r. slice_set l.after.sessions s (record m.log_is.has.is.at { running = grants_in r })) m.log_is.has.opened;
      };
      held = λ id. holders t s before after m.log_is.has.is l _ _ _ _ h id ∙ ap (λ o. cond (has_id ids id) (Some s) o) (sym (l.held id));
    };
  }

  pub refuse_step : (log : Log) (ids : List (List ℕ)) (m : MayGrab before t s log ids) (row : List ℕ) (by : ℕ) → IsCurrent (rows_in t before.rows) log → FirstHeld (holder_of t before.locks) s ids row by →
      Happens t s (Refuse row by) (Closes false) (rows_in t before.rows) (freed s (holder_of t before.locks)) before after → (l : IsLegal t m.log_is.has.is.kept before) → Step (tenant_of m.log_is.has.is.kept.part) l.after (record { session = s; kind = Refuse row by }) (state_at t after)
  refuse_step log ids m row by current first h l = record {
    session = m.log_is.has.is.at;
    is_session = there t s before after m.log_is.has.is l _ _ _ _ h;
    meets = record {
      o = m.log_is.has.o;
      opened = m.log_is.has.opened;
      ids = ids;
      asks = record {
        tape = log.answers;
        follows = subst (λ rows. Follows rows (run_of m.log_is.has) [] log.answers) (sym l.store) (follows (rows_in t before.rows) (run_of m.log_is.has) [] log.asked log.answers m.log_is.asks current);
        asks = m.next;
        behind = m.log_is.grabs;
      };
      first = first_as (holder_of t before.locks) (holder l.after.held) l.held s ids row by first;
      changes = record { store = h.rows ∙ sym l.store; sessions = sessions t s before after m.log_is.has.is l _ _ _ _ h };
      held = λ id. holders t s before after m.log_is.has.is l _ _ _ _ h id ∙ ap (but s) (sym (l.held id));
    };
  }

  pub restart_step : (log : Log) (k : ℕ) (m : MayRestart before t s log k) → Happens t s Restart Restarts (rows_in t before.rows) (freed s (holder_of t before.locks)) before after → (l : IsLegal t m.has.is.kept before) → Step (tenant_of m.has.is.kept.part) l.after (record { session = s; kind = Restart }) (state_at t after)
  restart_step log k m h l = record {
    session = m.has.is.at;
    is_session = there t s before after m.has.is l _ _ _ _ h;
    meets = record {
      o = m.has.o;
      opened = m.has.opened;
      moved = must_be (rows_in t before.rows) log.asked log.answers k m.has.o.moved m.stale m.seen;
      few = m.few;
      changes = record {
        store = h.rows ∙ sym l.store;
        sessions = sessions t s before after m.has.is l _ _ _ _ h ∙ ap (λ r. slice_set l.after.sessions s (record m.has.is.at { running = begins_in r })) m.has.opened;
      };
      held = λ id. holders t s before after m.has.is l _ _ _ _ h id ∙ ap (but s) (sym (l.held id));
    };
  }

  pub end_step : (log : Log) (reply : Reply) (writes : Writes) (m : MayEnd before t s log reply writes) → IsCurrent (rows_in t before.rows) log →
      Happens t s (End reply) (Closes (some_writes writes)) (taken writes (rows_in t before.rows)) (freed s (holder_of t before.locks)) before after → (l : IsLegal t m.log_is.has.is.kept before) → Step (tenant_of m.log_is.has.is.kept.part) l.after (record { session = s; kind = End reply }) (state_at t after)
  end_step log reply writes m current h l = record {
    session = m.log_is.has.is.at;
    is_session = there t s before after m.log_is.has.is l _ _ _ _ h;
    meets = record {
      o = m.log_is.has.o;
      opened = m.log_is.has.opened;
      meant = m.meant;
      writes = writes;
      grabs = grabs_on (run_of m.log_is.has) [] log.answers;
      evaluates = record {
        tape = log.answers;
        follows = subst (λ rows. Follows rows (run_of m.log_is.has) [] log.answers) (sym l.store) (follows (rows_in t before.rows) (run_of m.log_is.has) [] log.asked log.answers m.log_is.asks current);
        ends = m.ends;
        grabs_are = refl;
      };
      same = m.same;
      all = m.log_is.grabs;
      holds = λ id. ap (is_by s) (l.held id) ∙ m.log_is.holds id;
      store = h.rows ∙ ap (taken writes) (sym l.store);
      sessions = sessions t s before after m.log_is.has.is l _ _ _ _ h;
      held = λ id. holders t s before after m.log_is.has.is l _ _ _ _ h id ∙ ap (but s) (sym (l.held id));
    };
  }

-- ---- behind each call

module _ (t s : ℕ) (before after : Shared) where
  pub kept_else : (e : Event) → after.entries ≡ before.entries ++ record { tenant = t; event = e } ∷ [] → part_at t after.tenants ≡ part_at t before.tenants → after.order ≡ before.order
      → ((other : ℕ) → (other ≡ t → ⊥) → kept_at other after.tenants ≡ kept_at other before.tenants) → ((other : ℕ) → (other ≡ t → ⊥) → rows_in other after.rows ≡ rows_in other before.rows)
      → ((other : ℕ) → (other ≡ t → ⊥) → (id : List ℕ) → holder_of other after.locks id ≡ holder_of other before.locks id) → Keeps t before after
  kept_else e entries part order kept rows held = record {
    part = part;
    order = order;
    others = record { kept = kept; rows = rows; held = held; trail = λ other n. ap (trail_in other) entries ∙ trail_other t other before.entries e n };
  }

  pub started : (m : MayStart before t s) (i : ℕ) → ((at : Session) → slice_get (sessions_at t before.tenants) s ≡ Some at → i ≡ at.closed) → Happens t s (Start i) Starts (rows_in t before.rows) (holder_of t before.locks) before after → Keeps t before after → IsSound before → IsSound after
  started m i next h keeps sound =
      sound_more t before after (record { session = s; kind = Start i }) h.entries keeps m.is.kept m.is.is_kept
      (start_step t s before after m i (next m.is.at (ap (λ k. slice_get (sessions_in k) s) m.is.is_kept ∙ m.is.is_session)) h) sound

  pub granted : (log : Log) (ids : List (List ℕ)) (m : MayGrab before t s log ids) → IsCurrent (rows_in t before.rows) log → NoneHeld (holder_of t before.locks) s ids →
      Happens t s Grab Grabs (rows_in t before.rows) (holding s ids (holder_of t before.locks)) before after → Keeps t before after → IsSound before → IsSound after
  granted log ids m current none h keeps sound = sound_more t before after (record { session = s; kind = Grab }) h.entries keeps m.log_is.has.is.kept m.log_is.has.is.is_kept (grant_step t s before after log ids m current none h) sound

  pub refused : (log : Log) (ids : List (List ℕ)) (m : MayGrab before t s log ids) (row : List ℕ) (by : ℕ) → IsCurrent (rows_in t before.rows) log → FirstHeld (holder_of t before.locks) s ids row by →
      Happens t s (Refuse row by) (Closes false) (rows_in t before.rows) (freed s (holder_of t before.locks)) before after → Keeps t before after → IsSound before → IsSound after
  refused log ids m row by current first h keeps sound =
      sound_more t before after (record { session = s; kind = Refuse row by }) h.entries keeps m.log_is.has.is.kept m.log_is.has.is.is_kept (refuse_step t s before after log ids m row by current first h) sound

  pub restarted : (log : Log) (k : ℕ) (m : MayRestart before t s log k) → Happens t s Restart Restarts (rows_in t before.rows) (freed s (holder_of t before.locks)) before after → Keeps t before after → IsSound before → IsSound after
  restarted log k m h keeps sound = sound_more t before after (record { session = s; kind = Restart }) h.entries keeps m.has.is.kept m.has.is.is_kept (restart_step t s before after log k m h) sound

  pub ended : (log : Log) (reply : Reply) (writes : Writes) (m : MayEnd before t s log reply writes) → IsCurrent (rows_in t before.rows) log →
      Happens t s (End reply) (Closes (some_writes writes)) (taken writes (rows_in t before.rows)) (freed s (holder_of t before.locks)) before after → Keeps t before after → IsSound before → IsSound after
  ended log reply writes m current h keeps sound =
      sound_more t before after (record { session = s; kind = End reply }) h.entries keeps m.log_is.has.is.kept m.log_is.has.is.is_kept (end_step t s before after log reply writes m current h) sound
