-- The open request of a session, pause by pause.
use Rattle.std.proofs.Common.{arith, ◌≡◌, ◌⊎◌, inl, inr, refl, sym, ap, subst, ◌∙◌, ℕ, zero, suc, ◌+◌, ◌<◌, ◌≤◌, eqb, Bool, true, false, List, [], ◌∷◌, ◌++◌, append-nil, length, Option, None, Some}
use Rattle.std.specs.Prelude.{slice_get, slice_index_or}
use Rattle.std.proofs.lemmas.Bool.{eqb-true, eqb-false}
use Rattle.std.proofs.lemmas.Option.{get_or_from_slice_get, slice_get_within}
use Rattle.apex_requests.specs.declared.reply.EventKind.{EventKind}
use Rattle.apex_requests.specs.declared.reply.EventKind.TheVariants.{Start, Grab as GrabEvent, Refuse, Restart, End}
use Rattle.apex_requests.specs.declared.reply.Reply.{Reply}
use Rattle.apex_requests.specs.declared.request.Request.{Request}
use Rattle.apex_requests.specs.declared.request.Ticket.{Ticket}
use Rattle.apex_requests.specs.declared.request.Work.{Work}
use Rattle.apex_rows.specs.declared.query.Answer.{Answer}
use Rattle.apex_rows.specs.declared.query.Question.{Question}
use Rattle.apex_rows.specs.declared.query.Question.TheVariants.{Read, Grab}
use Rattle.apex_rows.specs.declared.row.Row.{Row}
use Rattle.apex_rows.specs.declared.row.Writes.{Writes}
use Rattle.apex_schema.specs.declared.schema.Schema.{Schema}
use Rattle.record_store.specs.Heaps.{rows_in}
use Rattle.record_store.specs.Places.{answer_to}
use Rattle.row_locks.specs.Holders.{FirstHeld, NoneHeld}
use Rattle.row_locks.specs.Locks.{holder_of}
use Rattle.row_meaning.specs.Stores.{has_id, taken}
use Rattle.legal_trails.specs.Legal.{SameReply, Session, State, Step, all_ids, closing, is_by, some_writes}
use Rattle.legal_trails.specs.Turns.{Goes, IsFresh, Serves}
use Rattle.tenant_trails.specs.Runs.{Asks, Ends, Follows, Run, grabs_on, ids_asked}
use Rattle.stack_code.specs.declared.image.Image.{Image}
use Rattle.tenant_parts.specs.declared.part.TenantPart.{TenantPart}
use Rattle.tenant_parts.specs.declared.session.Session.{Session as Planned}
use Rattle.tenant_shards.specs.declared.change.Change.TheVariants.{Starts, Grabs, Closes}
use Rattle.tenant_shards.specs.declared.log.Log.{Log}
use Rattle.tenant_shards.specs.Logs.{AreCurrent, IsCurrent, IsLogOf, IsStale}
use Rattle.tenant_shards.specs.Parts.{counts_of, request_at, request_run, tenant_of, ticket_of}
use Rattle.tenant_shards.specs.Shards.{Happens, HasLog, HasOpen, IsLegal, Keeps, MayEnd, MayGrab, MayRestart, MayStart, RestartsSo, Shared, freed, holding}
use Rattle.tenant_shards.specs.Tenants.{part_at, sessions_at, trail_in}
use Rattle.tenant_shards.proofs.Asked.{follows}
use Rattle.tenant_shards.proofs.Legality.{end_step, grant_step, refuse_step, restart_step, start_step, state_at}
use Rattle.tenant_shards.proofs.Tenants.{trail_own}
use Rattle.session_turns.specs.declared.calls.Next.TheVariants.{Over}
use Rattle.session_turns.specs.Calls.{BeginsAgain, EndsIn, IsAgain, IsClosed, IsLast, IsMet, IsOn, IsRefused, IsRunSoFar, MayAsk, MayBeginAgain, MovesFrom, MovesSo, StaysCurrent, go_of, no_log, open_session}
use Rattle.session_runs.specs.Replies.{Replies, RepliesAt, RepliesOpen, open_in}
use Rattle.session_runs.specs.Sessions.{EndsWork}
use Rattle.session_turns.proofs.Frames.{not_own, set_same, tell_at}
use Rattle.session_turns.proofs.Logs.{grabs_are, holds_more, is_current, is_log, never_stale, one_longer}
use Rattle.session_turns.proofs.SoFar.{Is, kept_is, legal_of, more, session_kept}

-- ---- requests of a part

none_some : {A : Type 0} {a : A} → ◌≡◌ {A = Option A} None (Some a) → ⊥
none_some e = cc

-- how many requests the session has, and that this is one of them
pub record IsBelow (sessions : List Planned) (s i : ℕ) : Type 0 where
  pub most : ℕ
  pub is_most : slice_get (counts_of sessions) s ≡ Some most
  pub below : i < most

pub is_below : (sessions : List Planned) (s i : ℕ) (r : Request) → request_at sessions s i ≡ Some r → IsBelow sessions s i
is_below [] s i r e = absurd (none_some e)
is_below (x ∷ xs) zero i r e = record { most = length x.requests; is_most = refl; below = slice_get_within x.requests i r e }
is_below (x ∷ xs) (suc s) i r e = let b = is_below xs s i r e in record { most = b.most; is_most = b.is_most; below = b.below }

-- ---- a tape

pub tape_there : (tapes : List (List Answer)) (s : ℕ) (tape : List Answer) → slice_get tapes s ≡ Some tape → slice_index_or tapes s [] ≡ tape
tape_there tapes s tape e = get_or_from_slice_get tapes s tape [] e

-- where an answer differs now, the rows don't make this tape
current_of : (rows : List Row) (go : List Answer → Run) (before : List Answer) (qs : List Question) (more : List Answer) → IsLogOf go before qs more → Follows rows go before more → AreCurrent rows qs more
current_of rows go before [] [] l f = tt
current_of rows go before [] (a ∷ more) l f = absurd l
current_of rows go before (q ∷ qs) [] l f = absurd l
current_of rows go before (q ∷ qs) (a ∷ more) l f = (f.2 ∙ ap (answer_to rows) (same_question f.0 q (sym f.1 ∙ l.0)), current_of rows go (before ++ a ∷ []) qs more l.1 f.3) where
  same_question : (p q : Question) → Asks p ≡ Asks q → p ≡ q
  same_question p q e = cc

-- ---- the log of the open request

module _ (schema : Schema) (image : Image) (ticket : Ticket) (work : Work) (tenant restarts : ℕ) (log : Log) (shard : Shared) (on : IsOn schema image ticket work tenant restarts log shard) where
  abbrev pub go : List Answer → Run
  go = go_of schema on.part ticket work

  abbrev pub lists : List (List (List ℕ))
  lists = grabs_on go [] log.answers

  abbrev pub at : Session
  at = open_session ticket.index (length lists) restarts on.moved

  abbrev pub is : Is on.part tenant shard
  is = kept_is on.part tenant shard on.is_part

  pub run_of_part : (tenant_of on.part).run ticket.session ticket.index ≡ go
  run_of_part =
      ap (λ o. request_run on.part o ticket.session ticket.index) on.is_request
      ∙ ap (λ x. go_of x on.part (ticket_of on.request ticket.session ticket.index) on.request.work) on.schema_is
      ∙ ap (λ x. go_of schema on.part x on.request.work) (sym on.ticket_is)
      ∙ ap (λ x. go_of schema on.part ticket x) (sym on.work_is)

  pub run_is : (tenant_of is.kept.part).run ticket.session ticket.index ≡ go
  run_is = ap (λ p. (tenant_of p).run ticket.session ticket.index) is.part_is ∙ run_of_part

  abbrev pub has_open : HasOpen shard tenant ticket.session
  has_open = record {
    is = record { kept = is.kept; is_kept = is.is_kept; at = at; is_session = sym (ap (λ ss. slice_get ss ticket.session) (session_kept on.part tenant shard is)) ∙ on.session };
    o = record { request = ticket.index; grabs = length lists; restarts = restarts; moved = on.moved };
    opened = refl;
  }

  abbrev pub has_log : HasLog shard tenant ticket.session log
  has_log = record {
    has = has_open;
    asks = subst (λ g. IsLogOf g [] log.asked log.answers) (sym run_is) on.asks;
    grabs = ap (λ g. length (grabs_on g [] log.answers)) (sym run_is);
    holds = λ id. on.holds id ∙ ap (λ g. has_id (all_ids (grabs_on g [] log.answers)) id) (sym run_is);
  }

  pub may_ask : (q : Question) → go log.answers ≡ Asks q → MayAsk shard tenant ticket.session log q
  may_ask q e = record { log_is = has_log; next = ap (λ g. g log.answers) run_is ∙ e }

  abbrev pub may_grab : (ids : List (List ℕ)) → go log.answers ≡ Asks (Grab ids) → MayGrab shard tenant ticket.session log ids
  may_grab ids e = record { log_is = has_log; next = ap (λ g. g log.answers) run_is ∙ e }

  abbrev pub may_end : (reply meant : Reply) (writes : Writes) → go log.answers ≡ Ends meant writes → SameReply reply meant → MayEnd shard tenant ticket.session log reply writes
  may_end reply meant writes e same = record { log_is = has_log; meant = meant; ends = ap (λ g. g log.answers) run_is ∙ e; same = same }

  pub fewer : (n : ℕ) → n ≤ 3 → (n ≡ 3 → ⊥) → n < 3
  fewer n le ne = by (eqb n 3) refl where
    by : (b : Bool) → eqb n 3 ≡ b → n < 3
    by true e = absurd (ne (eqb-true n 3 e))
    by false e = let apart = eqb-false n 3 e in less n le apart where
      less : (n : ℕ) → n ≤ 3 → (n ≡ 3 → ⊥) → n < 3
      less n le ne = omega (arith, le, ne)

  abbrev pub may_begin_again : IsLast tenant restarts log shard → MayBeginAgain shard tenant ticket.session log
  may_begin_again last = record { has = has_open; seen = on.seen; few = λ differs. fewer restarts on.few (λ e. differs (last e)) }

  -- the answers of its log are the rows' own, or one of them isn't
  fresh : IsCurrent (rows_in tenant shard.rows) log → IsFresh (rows_in tenant shard.rows) go log.answers
  fresh current = follows (rows_in tenant shard.rows) go [] log.asked log.answers on.asks current

  not_fresh : (IsCurrent (rows_in tenant shard.rows) log → ⊥) → IsFresh (rows_in tenant shard.rows) go log.answers → ⊥
  not_fresh differs f = differs (current_of (rows_in tenant shard.rows) go [] log.asked log.answers on.asks f)

  -- ---- a move

  there : (st : State) → IsRunSoFar image on.part tenant shard st → slice_get st.sessions ticket.session ≡ Some at
  there st so_far = ap (λ ss. slice_get ss ticket.session) so_far.sessions ∙ on.session

  goes_so : (st : State) (tapes : List (List Answer)) (kind : Option EventKind) (later : List Answer) → IsRunSoFar image on.part tenant shard st → slice_get tapes ticket.session ≡ Some log.answers → Serves (go log.answers) (rows_in tenant shard.rows) go log.answers kind later →
      Goes (tenant_of on.part) ticket.session at.running st.store (slice_index_or tapes ticket.session []) kind later
  goes_so st tapes kind later so_far e h =
      subst (λ tape. Serves ((tenant_of on.part).run ticket.session ticket.index tape) st.store ((tenant_of on.part).run ticket.session ticket.index) tape kind later) (sym (tape_there tapes ticket.session log.answers e))
      (subst (λ store. Serves ((tenant_of on.part).run ticket.session ticket.index log.answers) store ((tenant_of on.part).run ticket.session ticket.index) log.answers kind later) (sym so_far.store)
      (subst (λ g. Serves (g log.answers) (rows_in tenant shard.rows) g log.answers kind later) (sym run_of_part) h))

  part_is : (part : TenantPart) → part_at tenant shard.tenants ≡ Some part → on.part ≡ part
  part_is part e = some_is (sym on.is_part ∙ e) where
    some_is : {A : Type 0} {a b : A} → Some a ≡ Some b → a ≡ b
    some_is f = cc

  -- with an event
  module _ (after : Shared) (kind : EventKind) (later : List Answer) (entries : after.entries ≡ shard.entries ++ record { tenant = tenant; event = record { session = ticket.session; kind = kind } } ∷ [])
      (serves : Serves (go log.answers) (rows_in tenant shard.rows) go log.answers (Some kind) later)
      (step : (l : IsLegal tenant is.kept shard) → Step (tenant_of is.kept.part) l.after (record { session = ticket.session; kind = kind }) (state_at tenant after))
      (reply : (st : State) → IsRunSoFar image on.part tenant shard st → RepliesAt on.part image st ticket.session kind) where
    step_of : (st : State) → IsRunSoFar image on.part tenant shard st → Step (tenant_of on.part) st (record { session = ticket.session; kind = kind }) (state_at tenant after)
    step_of st so_far = subst (λ p. Step (tenant_of p) st (record { session = ticket.session; kind = kind }) (state_at tenant after)) is.part_is (step (legal_of on.part image tenant shard st so_far is))

    from : (st : State) → IsRunSoFar image on.part tenant shard st → MovesFrom on.part image tenant ticket.session log.answers (Some kind) later after st
    from st so_far = record {
      next = state_at tenant after;
      so_far = more on.part image tenant shard after st ticket.session kind so_far entries (step_of st so_far) (reply st so_far);
      moves = λ tapes e. record {
        session = at;
        is_session = there st so_far;
        later = later;
        goes = goes_so st tapes (Some kind) later so_far e serves;
        happens = step_of st so_far;
        tapes = refl;
      };
    }

    pub moved : MovesSo image tenant ticket.session log.answers later shard after
    moved = record {
      kind = Some kind;
      entries = ap (trail_in tenant) entries ∙ trail_own tenant shard.entries (record { session = ticket.session; kind = kind });
      from = λ part e st so_far.
          let same = part_is part e in
          subst (λ p. MovesFrom p image tenant ticket.session log.answers (Some kind) later after st) same (from st (subst (λ p. IsRunSoFar image p tenant shard st) (sym same) so_far));
    }

  -- without one
  module _ (later : List Answer) (serves : Serves (go log.answers) (rows_in tenant shard.rows) go log.answers None later) where
    quietly : (st : State) → IsRunSoFar image on.part tenant shard st → MovesFrom on.part image tenant ticket.session log.answers None later shard st
    quietly st so_far = record {
      next = st;
      so_far = so_far;
      moves = λ tapes e. record {
        session = at;
        is_session = there st so_far;
        later = later;
        goes = goes_so st tapes None later so_far e serves;
        happens = refl;
        tapes = refl;
      };
    }

    pub moved_quietly : MovesSo image tenant ticket.session log.answers later shard shard
    moved_quietly = record {
      kind = None;
      entries = sym (append-nil (trail_in tenant shard.entries));
      from = λ part e st so_far.
          let same = part_is part e in
          subst (λ p. MovesFrom p image tenant ticket.session log.answers None later shard st) same (quietly st (subst (λ p. IsRunSoFar image p tenant shard st) (sym same) so_far));
    }

  serves_by : (r : Run) (kind : Option EventKind) (later : List Answer) → go log.answers ≡ r → Serves r (rows_in tenant shard.rows) go log.answers kind later → Serves (go log.answers) (rows_in tenant shard.rows) go log.answers kind later
  serves_by r kind later e h = subst (λ x. Serves x (rows_in tenant shard.rows) go log.answers kind later) (sym e) h

  -- ---- an answer more

  module _ (q : Question) (a : Answer) (new : Log) (asked : new.asked ≡ log.asked ++ q ∷ []) (answers : new.answers ≡ log.answers ++ a ∷ []) (next : go log.answers ≡ Asks q) (is_answer : a ≡ answer_to (rows_in tenant shard.rows) q) where
    lists_are : grabs_on go [] new.answers ≡ lists ++ ids_asked q
    lists_are = grabs_are go (rows_in tenant shard.rows) log new q a asked answers next

    pub stays_current : (after : Shared) → rows_in tenant after.rows ≡ rows_in tenant shard.rows → StaysCurrent tenant log shard new after
    stays_current after same current = subst (λ rows. IsCurrent rows new) (sym same) (is_current go (rows_in tenant shard.rows) log new q a asked answers current is_answer)

    on_read : ids_asked q ≡ [] → IsOn schema image ticket work tenant restarts new shard
    on_read none =
        let still : grabs_on go [] new.answers ≡ lists = lists_are ∙ ap (λ ids. lists ++ ids) none ∙ append-nil lists in
        record {
          part = on.part;
          is_part = on.is_part;
          means = on.means;
          schema_is = on.schema_is;
          request = on.request;
          is_request = on.is_request;
          ticket_is = on.ticket_is;
          work_is = on.work_is;
          moved = on.moved;
          session = on.session ∙ ap (λ ids. Some (open_session ticket.index (length ids) restarts on.moved)) (sym still);
          asks = is_log go (rows_in tenant shard.rows) log new q a asked answers on.asks next;
          holds = λ id. on.holds id ∙ ap (λ ids. has_id (all_ids ids) id) (sym still);
          seen = λ quiet. stays_current shard refl (on.seen quiet);
          few = on.few;
        }

    on_granted : (ids : List (List ℕ)) → q ≡ Grab ids → (after : Shared) → Keeps tenant shard after →
        Happens tenant ticket.session GrabEvent Grabs (rows_in tenant shard.rows) (holding ticket.session ids (holder_of tenant shard.locks)) shard after → IsOn schema image ticket work tenant restarts new after
    on_granted ids q_is after keeps h =
        let longer : grabs_on go [] new.answers ≡ lists ++ ids ∷ [] = lists_are ∙ ap (λ x. lists ++ ids_asked x) q_is in
        record {
          part = on.part;
          is_part = keeps.part ∙ on.is_part;
          means = on.means;
          schema_is = on.schema_is;
          request = on.request;
          is_request = on.is_request;
          ticket_is = on.ticket_is;
          work_is = on.work_is;
          moved = on.moved;
          session =
              ap (λ ss. slice_get ss ticket.session) (h.sessions at on.session) ∙ set_same (sessions_at tenant shard.tenants) ticket.session at (open_session ticket.index (length lists + 1) restarts on.moved) on.session
              ∙ ap (λ n. Some (open_session ticket.index n restarts on.moved)) (sym (ap length longer ∙ one_longer lists ids));
          asks = is_log go (rows_in tenant shard.rows) log new q a asked answers on.asks next;
          holds = λ id.
              ap (is_by ticket.session) (h.held id) ∙ holds_more ticket.session (holder_of tenant shard.locks) lists ids id (on.holds id)
              ∙ ap (λ more. has_id (all_ids more) id) (sym longer);
          seen = λ quiet. stays_current after h.rows (on.seen quiet);
          few = on.few;
        }

  -- an answer to a question for rows, and rows alone that are granted
  pub met : (q : Question) (a : Answer) (new : Log) (after : Shared) → new.asked ≡ log.asked ++ q ∷ [] → new.answers ≡ log.answers ++ a ∷ [] → go log.answers ≡ Asks q → a ≡ answer_to (rows_in tenant shard.rows) q → Keeps tenant shard after →
      IsMet tenant ticket.session log q shard after → IsOn schema image ticket work tenant restarts new after × StaysCurrent tenant log shard new after
  met (Read object cond) a new after asked answers next is_answer keeps m =
      subst (λ x. IsOn schema image ticket work tenant restarts new x × StaysCurrent tenant log shard new x) (sym m)
      (on_read (Read object cond) a new asked answers next is_answer refl, stays_current (Read object cond) a new asked answers next is_answer shard refl)
  met (Grab ids) a new after asked answers next is_answer keeps m = (on_granted (Grab ids) a new asked answers next is_answer ids refl after keeps m.2, stays_current (Grab ids) a new asked answers next is_answer after m.2.rows)

  pub met_moves : (q : Question) (a : Answer) (new : Log) (after : Shared) → new.answers ≡ log.answers ++ a ∷ [] → go log.answers ≡ Asks q → a ≡ answer_to (rows_in tenant shard.rows) q → IsMet tenant ticket.session log q shard after →
      MovesSo image tenant ticket.session log.answers new.answers shard after
  met_moves (Read object cond) a new after answers next is_answer m =
      subst (λ x. MovesSo image tenant ticket.session log.answers new.answers shard x) (sym m)
      (moved_quietly new.answers (serves_by (Asks (Read object cond)) None new.answers next (refl, answers ∙ ap (λ x. log.answers ++ x ∷ []) is_answer)))
  met_moves (Grab ids) a new after answers next is_answer m =
      moved after GrabEvent new.answers m.2.entries
      (serves_by (Asks (Grab ids)) (Some GrabEvent) new.answers next (inr (fresh m.0, inl (refl, answers ∙ ap (λ x. log.answers ++ x ∷ []) is_answer))))
      (grant_step tenant ticket.session shard after log ids (may_grab ids next) m.0 m.1 m.2)
      (λ st so_far. tt)

  -- ---- it begins again

  pub again_on : (after : Shared) → Keeps tenant shard after → restarts < 3 → RestartsSo tenant ticket.session shard after → IsOn schema image ticket work tenant (restarts + 1) no_log after
  again_on after keeps few h = record {
    part = on.part;
    is_part = keeps.part ∙ on.is_part;
    means = on.means;
    schema_is = on.schema_is;
    request = on.request;
    is_request = on.is_request;
    ticket_is = on.ticket_is;
    work_is = on.work_is;
    moved = false;
    session = ap (λ ss. slice_get ss ticket.session) (h.sessions at on.session) ∙ set_same (sessions_at tenant shard.tenants) ticket.session at (open_session ticket.index 0 (restarts + 1) false) on.session;
    asks = tt;
    holds = λ id. ap (is_by ticket.session) (h.held id) ∙ not_own ticket.session (holder_of tenant shard.locks id);
    seen = λ quiet. tt;
    few = omega (arith, few);
  }

  differs : (k : ℕ) → IsStale (rows_in tenant shard.rows) log k → IsCurrent (rows_in tenant shard.rows) log → ⊥
  differs k stale current = never_stale (rows_in tenant shard.rows) log k stale current

  pub fewer_still : (k : ℕ) → IsStale (rows_in tenant shard.rows) log k → IsLast tenant restarts log shard → restarts < 3
  fewer_still k stale last = (may_begin_again last).few (differs k stale)

  again_moves : (r : Run) → go log.answers ≡ r → (IsCurrent (rows_in tenant shard.rows) log → ⊥) → Serves r (rows_in tenant shard.rows) go log.answers (Some Restart) [] → IsLast tenant restarts log shard → (after : Shared) → IsAgain tenant ticket.session log shard after →
      MovesSo image tenant ticket.session log.answers [] shard after
  again_moves r e d serves last after h =
      moved after Restart [] h.2.entries (serves_by r (Some Restart) [] e serves)
      (restart_step tenant ticket.session shard after log h.0 (record { has = has_open; stale = h.1; seen = on.seen; few = fewer_still h.0 h.1 last }) h.2)
      (λ st so_far. tt)

  -- ---- it is closed

  closed_so : (after : Shared) → slice_get (sessions_at tenant after.tenants) ticket.session ≡ Some (closing at) → ((id : List ℕ) → holder_of tenant after.locks id ≡ freed ticket.session (holder_of tenant shard.locks) id) → IsClosed tenant ticket.session (ticket.index + 1) after
  closed_so after session held = record { session = session; free = λ id. ap (is_by ticket.session) (held id) ∙ not_own ticket.session (holder_of tenant shard.locks id) }

  pub replies : (st : State) (reply : Reply) (writes : Writes) → IsRunSoFar image on.part tenant shard st → EndsWork schema ticket image work (rows_in tenant shard.rows) reply writes → RepliesOpen on.part image st.store ticket.session (open_in (slice_get st.sessions ticket.session)) reply
  replies st reply writes so_far e =
      subst (λ o. RepliesOpen on.part image st.store ticket.session (open_in o) reply) (sym (there st so_far))
      (subst (λ r. Replies on.part image st.store ticket.session ticket.index r reply) (sym on.is_request) (
        writes,
        subst (λ rows. EndsWork on.part.schema (ticket_of on.request ticket.session ticket.index) image on.request.work rows reply writes) (sym so_far.store)
            (subst (λ x. EndsWork x (ticket_of on.request ticket.session ticket.index) image on.request.work (rows_in tenant shard.rows) reply writes) (sym on.schema_is)
            (subst (λ x. EndsWork schema x image on.request.work (rows_in tenant shard.rows) reply writes) on.ticket_is
            (subst (λ x. EndsWork schema ticket image x (rows_in tenant shard.rows) reply writes) on.work_is e))),
      ))

  -- ---- what a question comes to

  pub refused_closes : (q : Question) (after : Shared) → IsRefused tenant ticket.session log q shard after → IsClosed tenant ticket.session (ticket.index + 1) after
  refused_closes (Read object cond) after r = absurd r
  refused_closes (Grab ids) after r =
      closed_so after (ap (λ ss. slice_get ss ticket.session) (r.4.sessions at on.session) ∙ set_same (sessions_at tenant shard.tenants) ticket.session at (closing at) on.session) r.4.held

  pub refused_moves : (q : Question) (after : Shared) → go log.answers ≡ Asks q → IsRefused tenant ticket.session log q shard after → MovesSo image tenant ticket.session log.answers [] shard after
  refused_moves (Read object cond) after next r = absurd r
  refused_moves (Grab ids) after next r =
      moved after (Refuse r.0 r.1) [] r.4.entries
      (serves_by (Asks (Grab ids)) (Some (Refuse r.0 r.1)) [] next (inr (fresh r.2, inr (r.0, r.1, refl, refl))))
      (refuse_step tenant ticket.session shard after log ids (may_grab ids next) r.0 r.1 r.2 r.3 r.4)
      (λ st so_far. tt)

  pub asked_again : (q : Question) (after : Shared) → BeginsAgain tenant ticket.session log q shard after → IsAgain tenant ticket.session log shard after
  asked_again (Read object cond) after r = absurd r
  asked_again (Grab ids) after r = r

  pub asked_again_moves : (q : Question) (after : Shared) → go log.answers ≡ Asks q → IsLast tenant restarts log shard → BeginsAgain tenant ticket.session log q shard after → MovesSo image tenant ticket.session log.answers [] shard after
  asked_again_moves (Read object cond) after next last r = absurd r
  asked_again_moves (Grab ids) after next last r =
      again_moves (Asks (Grab ids)) next (differs r.0 r.1) (inl (not_fresh (differs r.0 r.1), refl, refl)) last after r

  -- ---- the end

  module _ (reply meant : Reply) (writes : Writes) (ends : go log.answers ≡ Ends meant writes) where
    pub end_again_moves : (after : Shared) → IsLast tenant restarts log shard → IsAgain tenant ticket.session log shard after → MovesSo image tenant ticket.session log.answers [] shard after
    end_again_moves after last r = again_moves (Ends meant writes) ends (differs r.0 r.1) (inl (not_fresh (differs r.0 r.1), refl, refl)) last after r

    pub ended_closes : (after : Shared) → EndsIn tenant ticket.session log reply writes shard after Over → IsClosed tenant ticket.session (ticket.index + 1) after
    ended_closes after h =
        closed_so after
        (ap (λ ss. slice_get ss ticket.session) (h.1.sessions at on.session) ∙ tell_at (some_writes writes) ticket.session _
        ∙ set_same (sessions_at tenant shard.tenants) ticket.session at (closing at) on.session)
        h.1.held

    pub ended_moves : (after : Shared) → SameReply reply meant → (IsCurrent (rows_in tenant shard.rows) log → EndsWork schema ticket image work (rows_in tenant shard.rows) reply writes) → EndsIn tenant ticket.session log reply writes shard after Over →
        MovesSo image tenant ticket.session log.answers [] shard after
    ended_moves after same e h =
        moved after (End reply) [] h.1.entries
        (serves_by (Ends meant writes) (Some (End reply)) [] ends (inr (fresh h.0, (reply, refl, refl))))
        (end_step tenant ticket.session shard after log reply writes (may_end reply meant writes ends same) h.0 h.1)
        (λ st so_far. replies st reply writes so_far (e h.0))
