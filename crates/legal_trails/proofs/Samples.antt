-- Trails by hand: two sessions with one request each, which asks for one row alone and then drops it.
use Rattle.std.proofs.Common.{arith, ◌≡◌, refl, ap, sym, ◌∙◌, ℕ, Bool, true, false, cond, List, [], ◌∷◌, Option, None, Some}
use Rattle.std.specs.Prelude.{slice_get, slice_set, bytes_eq, ◌||◌}
use Rattle.apex_rows.specs.declared.query.Question.TheVariants.{Grab as GrabOf}
use Rattle.apex_rows.specs.declared.query.Answer.{Answer}
use Rattle.apex_rows.specs.declared.query.Answer.TheVariants.{Granted}
use Rattle.apex_requests.specs.declared.reply.Outcome.TheVariants as Outcome
use Rattle.apex_requests.specs.declared.reply.Counts.{Counts}
use Rattle.apex_requests.specs.declared.reply.Reply.{Reply}
use Rattle.apex_requests.specs.declared.reply.Event.{Event}
use Rattle.apex_requests.specs.declared.reply.EventKind.{EventKind}
use Rattle.apex_requests.specs.declared.reply.EventKind.TheVariants.{Start, Grab, Refuse, Restart, End}
use Rattle.apex_rows.specs.declared.row.Writes.{Writes}
use Rattle.row_locks.specs.Holders.{but}
use Rattle.row_meaning.specs.Stores.{has_id}
use Rattle.tenant_trails.specs.Runs.{Run, Asks, Ends, Evaluates, Tenant}
use Rattle.legal_trails.specs.Legal.{Open, Session, State, Stay, Takes, Frees, Starts, EndsWith, begun, holder, is_by, all_ids, AsksFor, LegalTo}

abbrev drops : Writes
drops = record { puts = []; drops = (7 ∷ []) ∷ [] }

abbrev none : Counts
none = record { queries = 0; rows = 0; dml = 1; saved = 1; steps = 0 }

-- the machine's steps aren't the meaning's
abbrev reply_in : ℕ → Reply
reply_in ops = record { outcome = Outcome.Ok; debug = []; counts = none; ops = ops }

abbrev dropping : List Answer → Run
dropping [] = Asks (GrabOf ((7 ∷ []) ∷ []))
dropping (a ∷ more) = Ends (reply_in 0) drops

abbrev tenant : Tenant
tenant = record { seed = []; requests = 1 ∷ 1 ∷ []; run = λ s i. dropping }

abbrev fresh : Session
fresh = record { closed = 0; running = None }

abbrev done : Session
done = record { closed = 1; running = None }

abbrev with : Open → Session
with o = record { closed = 0; running = Some o }

abbrev holding : Open
holding = record (begun 0) { grabs = 1 }

abbrev at : Session → Session → State
at a b = record { store = []; sessions = a ∷ b ∷ []; held = [] }

-- the first session holds the row
abbrev at_held : Session → Session → State
at_held a b = record { store = []; sessions = a ∷ b ∷ []; held = (7 ∷ [], 0) ∷ [] }

only : (b : Bool) → ◌≡◌ {A = Option ℕ} (cond b (Some 0) None) (cond (b || false) (Some 0) None)
only true = refl
only false = refl

-- it takes it, and gives it free; the second has nothing to give free
takes : Takes 0 ((7 ∷ []) ∷ []) [] ((7 ∷ [], 0) ∷ [])
takes id = only (bytes_eq (7 ∷ []) id)

gone : (b : Bool) → ◌≡◌ {A = Option ℕ} None (but 0 (cond b (Some 0) None))
gone true = refl
gone false = refl

frees : Frees 0 ((7 ∷ [], 0) ∷ []) []
frees id = gone (bytes_eq (7 ∷ []) id)

kept : (b : Bool) → ◌≡◌ {A = Option ℕ} (cond b (Some 0) None) (but 1 (cond b (Some 0) None))
kept true = refl
kept false = refl

keeps : Frees 1 ((7 ∷ [], 0) ∷ []) ((7 ∷ [], 0) ∷ [])
keeps id = kept (bytes_eq (7 ∷ []) id)

held_by : (b : Bool) → is_by 0 (cond b (Some 0) None) ≡ (b || false)
held_by true = refl
held_by false = refl

holds : (id : List ℕ) → is_by 0 (holder ((7 ∷ [], 0) ∷ []) id) ≡ has_id (all_ids (((7 ∷ []) ∷ []) ∷ [])) id
holds id = held_by (bytes_eq (7 ∷ []) id)

abbrev event : ℕ → EventKind → Event
event s kind = record { session = s; kind = kind }

evaluates : Evaluates [] dropping (reply_in 0) drops (((7 ∷ []) ∷ []) ∷ [])
evaluates = record { tape = Granted ∷ []; follows = (GrabOf ((7 ∷ []) ∷ []), refl, refl, tt); ends = refl; grabs_are = refl }

-- what both ask for
asks : (st : State) (s : ℕ) (o : Open) → st.store ≡ [] → o.grabs ≡ 0 → AsksFor tenant st s o ((7 ∷ []) ∷ [])
asks st s o rows e = record { tape = []; follows = tt; asks = refl; behind = e }

starts : (st after : State) (s : ℕ) → (session : Session) → session ≡ fresh → slice_get tenant.requests s ≡ Some 1 → after.store ≡ st.store → after.sessions ≡ slice_set st.sessions s (with (begun 0)) → Stay st.held after.held → Starts tenant st s fresh 0 after
starts st after s session e most rows sessions held = record { free = refl; next = refl; most = 1; is_most = most; below = omega arith; changes = record { store = rows; sessions = sessions }; held = held }

ends : EndsWith tenant (at_held (with holding) done) 0 (with holding) (reply_in 5) (at done done)
ends = record {
  o = holding;
  opened = refl;
  meant = reply_in 0;
  writes = drops;
  grabs = ((7 ∷ []) ∷ []) ∷ [];
  evaluates = evaluates;
  same = record { outcome = refl; debug = refl; counts = refl };
  all = refl;
  holds = holds;
  store = refl;
  sessions = refl;
  held = frees;
}

-- the second session is refused while the first holds the row
refused : LegalTo tenant
    (event 0 (Start 0) ∷ event 0 Grab ∷ event 1 (Start 0) ∷ event 1 (Refuse (7 ∷ []) 0) ∷ event 0 (End (reply_in 5)) ∷ []) (at done done)
refused = (
  at (with (begun 0)) fresh,
  record { session = fresh; is_session = refl; meets = starts _ _ 0 fresh refl refl refl refl (λ id. refl) },
  (
    at_held (with holding) fresh,
    record { session = with (begun 0); is_session = refl; meets = record { o = begun 0; opened = refl; ids = (7 ∷ []) ∷ []; asks = asks _ 0 (begun 0) refl refl; none = (refl, tt); changes = record { store = refl; sessions = refl }; held = takes } },
    (
      at_held (with holding) (with (begun 0)),
      record { session = fresh; is_session = refl; meets = starts _ _ 1 fresh refl refl refl refl (λ id. refl) },
      (
        at_held (with holding) done,
        record { session = with (begun 0); is_session = refl; meets = record { o = begun 0; opened = refl; ids = (7 ∷ []) ∷ []; asks = asks _ 1 (begun 0) refl refl; first = (refl, refl); changes = record { store = refl; sessions = refl }; held = keeps } },
        (
          at done done,
          record { session = with holding; is_session = refl; meets = ends },
          refl,
        ),
      ),
    ),
  ),
)

-- writes of the first session are news to the second, which begins again
again_after_writes : LegalTo tenant
    (event 1 (Start 0) ∷ event 0 (Start 0) ∷ event 0 Grab ∷ event 0 (End (reply_in 5)) ∷ event 1 Restart ∷ [])
    (at done (with (record (begun 0) { restarts = 1 })))
again_after_writes = (
  at fresh (with (begun 0)),
  record { session = fresh; is_session = refl; meets = starts _ _ 1 fresh refl refl refl refl (λ id. refl) },
  (
    at (with (begun 0)) (with (begun 0)),
    record { session = fresh; is_session = refl; meets = starts _ _ 0 fresh refl refl refl refl (λ id. refl) },
    (
      at_held (with holding) (with (begun 0)),
      record { session = with (begun 0); is_session = refl; meets = record { o = begun 0; opened = refl; ids = (7 ∷ []) ∷ []; asks = asks _ 0 (begun 0) refl refl; none = (refl, tt); changes = record { store = refl; sessions = refl }; held = takes } },
      (
        at done (with (record (begun 0) { moved = true })),
        record {
          session = with holding;
          is_session = refl;
          meets = record { o = holding; opened = refl; meant = reply_in 0; writes = drops; grabs = ((7 ∷ []) ∷ []) ∷ []; evaluates = evaluates; same = record { outcome = refl; debug = refl; counts = refl }; all = refl; holds = holds; store = refl; sessions = refl; held = frees };
        },
        (
          at done (with (record (begun 0) { restarts = 1 })),
          record { session = with (record (begun 0) { moved = true }); is_session = refl; meets = record { o = record (begun 0) { moved = true }; opened = refl; moved = refl; few = omega arith; changes = record { store = refl; sessions = refl }; held = λ id. refl } },
          refl,
        ),
      ),
    ),
  ),
)

-- without news there is no restart
abbrev is_moved : Option Open → Bool
is_moved None = false
is_moved (Some o) = o.moved

abbrev news : Option Session → Bool
news None = false
news (Some session) = is_moved session.running

no_news : (after : State) → LegalTo tenant (event 0 (Start 0) ∷ event 0 Restart ∷ []) after → ⊥
no_news after l =
    let m : true ≡ false =
    sym (ap is_moved l.2.1.meets.opened ∙ l.2.1.meets.moved)
    ∙ sym (ap news l.2.1.is_session)
    ∙ ap (λ ss. news (slice_get ss 0)) l.1.meets.changes.sessions in
    absurd (cc)
