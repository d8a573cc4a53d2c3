-- Legal trails (docs/platform.md, "Trails").
use Rattle.std.specs.Prelude.{◌≡◌, ℕ, suc, ◌+◌, ◌<◌, ◌||◌, eqb, Bool, true, false, cond, List, [], ◌∷◌, ◌++◌, length, slice_get, slice_set, map, bytes_eq, Option, None, Some}
use Rattle.apex_requests.specs.declared.reply.Reply.{Reply}
use Rattle.apex_requests.specs.declared.reply.Event.{Event}
use Rattle.apex_requests.specs.declared.reply.EventKind.{EventKind}
use Rattle.apex_requests.specs.declared.reply.EventKind.TheVariants.{Start, Grab, Refuse, Restart, End}
use Rattle.apex_rows.specs.declared.query.Answer.{Answer}
use Rattle.apex_rows.specs.declared.query.Question.TheVariants.{Grab as GrabOf}
use Rattle.apex_rows.specs.declared.row.Row.{Row}
use Rattle.apex_rows.specs.declared.row.Writes.{Writes}
use Rattle.row_locks.specs.Holders.{NoneHeld, FirstHeld, but}
use Rattle.row_meaning.specs.Stores.{has_id, taken}
use Rattle.tenant_trails.specs.Runs.{Asks, Follows, Evaluates, Tenant, grabs_on}

-- a request that is open: its number, its grabs since it began or began again, how often it began again, and whether another
-- session has written since then
pub record Open : Type 0 where
  pub request : ℕ
  pub grabs : ℕ
  pub restarts : ℕ
  pub moved : Bool

-- how many requests a session has closed, and the open one
pub record Session : Type 0 where
  pub closed : ℕ
  pub running : Option Open

-- rows that are held, by their Ids, each with its session
abbrev pub Held : Type 0
Held = List (List ℕ × ℕ)

pub record State : Type 0 where
  pub store : List Row
  pub sessions : List Session
  pub held : Held

abbrev pub begun : ℕ → Open
begun i = record { request = i; grabs = 0; restarts = 0; moved = false }

abbrev pub again : Open → Open
again o = record { request = o.request; grabs = 0; restarts = o.restarts + 1; moved = false }

-- the session that holds a row
abbrev pub holder : Held → List ℕ → Option ℕ
holder [] id = None
holder (h ∷ hs) id = cond (bytes_eq h.0 id) (Some h.1) (holder hs id)

abbrev pub is_by : ℕ → Option ℕ → Bool
is_by s None = false
is_by s (Some t) = eqb t s

-- all rows are held as before
abbrev pub Stay : Held → Held → Type 0
Stay before after = (id : List ℕ) → holder after id ≡ holder before id

-- a session holds these rows, and whatever was held before is held still
abbrev pub Takes : ℕ → List (List ℕ) → Held → Held → Type 0
Takes s ids before after = (id : List ℕ) → holder after id ≡ cond (has_id ids id) (Some s) (holder before id)

-- a session's rows are free, and those of others are held still
abbrev pub Frees : ℕ → Held → Held → Type 0
Frees s before after = (id : List ℕ) → holder after id ≡ but s (holder before id)

abbrev pub all_ids : List (List (List ℕ)) → List (List ℕ)
all_ids [] = []
all_ids (ids ∷ more) = ids ++ all_ids more

abbrev pub is_any : {A : Type 0} → List A → Bool
is_any [] = false
is_any (x ∷ xs) = true

abbrev pub some_writes : Writes → Bool
some_writes w = is_any w.puts || is_any w.drops

-- other sessions are told of writes
abbrev pub told : Option Open → Option Open
told None = None
told (Some o) = Some (record o { moved = true })

abbrev pub tell_from : ℕ → ℕ → List Session → List Session
tell_from s n [] = []
tell_from s n (session ∷ sessions) = cond (eqb n s) session (record session { running = told session.running }) ∷ tell_from s (suc n) sessions

abbrev pub tell : Bool → ℕ → List Session → List Session
tell true s sessions = tell_from s 0 sessions
tell false s sessions = sessions

-- of rows and sessions only this session changes
pub record Changes (s : ℕ) (session : Session) (st after : State) : Type 0 where
  pub store : after.store ≡ st.store
  pub sessions : after.sessions ≡ slice_set st.sessions s session

abbrev pub closing : Session → Session
closing session = record { closed = session.closed + 1; running = None }

-- replies agree but for the machine's steps
pub record SameReply (a b : Reply) : Type 0 where
  pub outcome : a.outcome ≡ b.outcome
  pub debug : a.debug ≡ b.debug
  pub counts : a.counts ≡ b.counts

module _ (tenant : Tenant) where
  -- on the rows as they are the open request asks for these alone, behind as many such lists as it was granted
  pub record AsksFor (st : State) (s : ℕ) (o : Open) (ids : List (List ℕ)) : Type 0 where
    pub tape : List Answer
    pub follows : Follows st.store (tenant.run s o.request) [] tape
    pub asks : tenant.run s o.request tape ≡ Asks (GrabOf ids)
    pub behind : o.grabs ≡ length (grabs_on (tenant.run s o.request) [] tape)

  pub record Starts (st : State) (s : ℕ) (session : Session) (i : ℕ) (after : State) : Type 0 where
    pub free : session.running ≡ None
    pub next : i ≡ session.closed
    pub most : ℕ
    pub is_most : slice_get tenant.requests s ≡ Some most
    pub below : i < most
    pub changes : Changes s (record session { running = Some (begun i) }) st after
    pub held : Stay st.held after.held

  pub record Grabs (st : State) (s : ℕ) (session : Session) (after : State) : Type 0 where
    pub o : Open
    pub opened : session.running ≡ Some o
    pub ids : List (List ℕ)
    pub asks : AsksFor st s o ids
    pub none : NoneHeld (holder st.held) s ids
    pub changes : Changes s (record session { running = Some (record o { grabs = o.grabs + 1 }) }) st after
    pub held : Takes s ids st.held after.held

  pub record Refuses (st : State) (s : ℕ) (session : Session) (row : List ℕ) (by : ℕ) (after : State) : Type 0 where
    pub o : Open
    pub opened : session.running ≡ Some o
    pub ids : List (List ℕ)
    pub asks : AsksFor st s o ids
    pub first : FirstHeld (holder st.held) s ids row by
    pub changes : Changes s (closing session) st after
    pub held : Frees s st.held after.held

  pub record Restarts (st : State) (s : ℕ) (session : Session) (after : State) : Type 0 where
    pub o : Open
    pub opened : session.running ≡ Some o
    pub moved : o.moved ≡ true
    pub few : o.restarts < 3
    pub changes : Changes s (record session { running = Some (again o) }) st after
    pub held : Frees s st.held after.held

  pub record EndsWith (st : State) (s : ℕ) (session : Session) (reply : Reply) (after : State) : Type 0 where
    pub o : Open
    pub opened : session.running ≡ Some o
    pub meant : Reply
    pub writes : Writes
    pub grabs : List (List (List ℕ))
    pub evaluates : Evaluates st.store (tenant.run s o.request) meant writes grabs
    pub same : SameReply reply meant
    pub all : o.grabs ≡ length grabs
    pub holds : (id : List ℕ) → is_by s (holder st.held id) ≡ has_id (all_ids grabs) id
    pub store : after.store ≡ taken writes st.store
    pub sessions : after.sessions ≡ tell (some_writes writes) s (slice_set st.sessions s (closing session))
    pub held : Frees s st.held after.held

  abbrev pub Meets : EventKind → State → ℕ → Session → State → Type 0
  Meets (Start i) st s session after = Starts st s session i after
  Meets Grab st s session after = Grabs st s session after
  Meets (Refuse row by) st s session after = Refuses st s session row by after
  Meets Restart st s session after = Restarts st s session after
  Meets (End reply) st s session after = EndsWith st s session reply after

  -- an event is of a session of the tenant, and meets its case
  pub record Step (st : State) (e : Event) (after : State) : Type 0 where
    pub session : Session
    pub is_session : slice_get st.sessions e.session ≡ Some session
    pub meets : Meets e.kind st e.session session after

  abbrev pub LegalFrom : State → List Event → State → Type 0
  LegalFrom st [] after = after ≡ st
  LegalFrom st (e ∷ es) after = (mid : State) × Step st e mid × LegalFrom mid es after

  abbrev pub first_state : State
  first_state = record { store = tenant.seed; sessions = map (λ (n : ℕ). record { closed = 0; running = None }) tenant.requests; held = [] }

  -- the trail is legal, and leads to this state
  abbrev pub LegalTo : List Event → State → Type 0
  LegalTo trail after = LegalFrom first_state trail after

  pub record Legal (trail : List Event) : Type 0 where
    pub after : State
    pub is : LegalTo trail after

  -- every request of every session is closed
  pub record Closed (trail : List Event) : Type 0 where
    pub after : State
    pub is : LegalTo trail after
    pub sessions : after.sessions ≡ map (λ (n : ℕ). record { closed = n; running = None }) tenant.requests
