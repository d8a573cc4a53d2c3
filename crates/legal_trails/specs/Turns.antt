-- Trails that are made turn by turn (docs/platform.md, "Turns").
use Rattle.std.specs.Prelude.{◌≡◌, ◌⊎◌, ℕ, zero, suc, eqb, Bool, true, false, List, [], ◌∷◌, ◌++◌, map, slice_get, slice_set, slice_index_or, Option, None, Some}
use Rattle.apex_requests.specs.declared.reply.Event.{Event}
use Rattle.apex_requests.specs.declared.reply.EventKind.{EventKind}
use Rattle.apex_requests.specs.declared.reply.EventKind.TheVariants.{Start, Grab, Refuse, Restart, End}
use Rattle.apex_requests.specs.declared.reply.Reply.{Reply}
use Rattle.apex_rows.specs.declared.query.Answer.{Answer}
use Rattle.apex_rows.specs.declared.query.Answer.TheVariants.{Granted}
use Rattle.apex_rows.specs.declared.query.Question.TheVariants.{Read, Grab as GrabOf}
use Rattle.apex_rows.specs.declared.row.Row.{Row}
use Rattle.record_store.specs.Places.{answer_to}
use Rattle.tenant_trails.specs.Runs.{Run, Asks, Ends, Follows, Tenant}
use Rattle.legal_trails.specs.Legal.{Open, Session, State, Step, first_state}

-- a tenant between two turns: its state, and the answers that each session's attempt has so far
pub record Turning : Type 0 where
  pub state : State
  pub tapes : List (List Answer)

-- no answer of a tape differs from what the rows answer now
abbrev pub IsFresh : List Row → (List Answer → Run) → List Answer → Type 0
IsFresh store go tape = Follows store go [] tape

-- the attempt begins again where an answer differs now, and its tape is empty; otherwise it goes on so
abbrev pub Compared : List Row → (List Answer → Run) → List Answer → Option EventKind → List Answer → Type 0 → Type 0
Compared store go tape kind later goes_on = ((IsFresh store go tape → ⊥) × (kind ≡ Some Restart) × (later ≡ [])) ⊎ (IsFresh store go tape × goes_on)

-- rows are granted, or they are refused, which closes the request
abbrev pub Granting : List Answer → Option EventKind → List Answer → Type 0
Granting tape kind later = ((kind ≡ Some Grab) × (later ≡ tape ++ Granted ∷ [])) ⊎ ((row : List ℕ) × (by : ℕ) × (kind ≡ Some (Refuse row by)) × (later ≡ []))

abbrev pub Closing : Option EventKind → List Answer → Type 0
Closing kind later = (reply : Reply) × (kind ≡ Some (End reply)) × (later ≡ [])

-- where the attempt pauses next, that is served: a question for rows is answered, which is no event; at a question for rows
-- alone and at the end its answers are compared first
abbrev pub Serves : Run → List Row → (List Answer → Run) → List Answer → Option EventKind → List Answer → Type 0
Serves (Asks (Read object cond)) store go tape kind later = (kind ≡ None) × (later ≡ tape ++ answer_to store (Read object cond) ∷ [])
Serves (Asks (GrabOf ids)) store go tape kind later = Compared store go tape kind later (Granting tape kind later)
Serves (Ends reply writes) store go tape kind later = Compared store go tape kind later (Closing kind later)

abbrev pub is_open : Option Session → Bool
is_open None = false
is_open (Some session) = by session.running where
  by : Option Open → Bool
  by None = false
  by (Some o) = true

-- it was begun again three times
abbrev pub is_last : Option Session → Bool
is_last None = false
is_last (Some session) = by session.running where
  by : Option Open → Bool
  by None = false
  by (Some o) = eqb o.restarts 3

-- the events of a session, of which there may be none
abbrev pub events_of : ℕ → Option EventKind → List Event
events_of s None = []
events_of s (Some kind) = record { session = s; kind = kind } ∷ []

module _ (tenant : Tenant) where
  -- without an open request a session opens its next one
  abbrev pub Goes : ℕ → Option Open → List Row → List Answer → Option EventKind → List Answer → Type 0
  Goes s None store tape kind later = ((i : ℕ) × (kind ≡ Some (Start i))) × (later ≡ [])
  Goes s (Some o) store tape kind later = Serves (tenant.run s o.request tape) store (tenant.run s o.request) tape kind later

  -- an event is a legal one; without one nothing changes
  abbrev pub Happens : State → ℕ → Option EventKind → State → Type 0
  Happens st s None after = after ≡ st
  Happens st s (Some kind) after = Step tenant st (record { session = s; kind = kind }) after

  -- a session starts, or its open request goes on to its next pause
  pub record Moves (s : ℕ) (before : Turning) (kind : Option EventKind) (after : Turning) : Type 0 where
    pub session : Session
    pub is_session : slice_get before.state.sessions s ≡ Some session
    pub later : List Answer
    pub goes : Goes s session.running before.state.store (slice_index_or before.tapes s []) kind later
    pub happens : Happens before.state s kind after.state
    pub tapes : after.tapes ≡ slice_set before.tapes s later

  -- so many moves of an open request, the last of which closes it
  abbrev pub Finishes : ℕ → ℕ → Turning → List Event → Turning → Type 0
  Finishes zero s before events after = (is_open (slice_get before.state.sessions s) ≡ false) × (events ≡ []) × (after ≡ before)
  Finishes (suc n) s before events after =
      (is_open (slice_get before.state.sessions s) ≡ true) × ((kind : Option EventKind) × (mid : Turning) × (rest : List Event) × Moves s before kind mid × Finishes n s mid rest after × (events ≡ events_of s kind ++ rest))

  -- one move is a turn; but an attempt that began again three times goes on to its end in one turn
  abbrev pub TurnBy : Bool → ℕ → Turning → List Event → Turning → Type 0
  TurnBy false s before events after = (kind : Option EventKind) × Moves s before kind after × (events ≡ events_of s kind)
  TurnBy true s before events after = (n : ℕ) × Finishes n s before events after

  abbrev pub Turn : ℕ → Turning → List Event → Turning → Type 0
  Turn s before events after = TurnBy (is_last (slice_get before.state.sessions s)) s before events after

  -- the turns of these sessions, one after the other
  abbrev pub Turns : List ℕ → Turning → List Event → Turning → Type 0
  Turns [] before events after = (events ≡ []) × (after ≡ before)
  Turns (s ∷ ss) before events after = (front : List Event) × (mid : Turning) × (rest : List Event) × Turn s before front mid × Turns ss mid rest after × (events ≡ front ++ rest)

  abbrev pub first_turning : Turning
  first_turning = record { state = first_state tenant; tapes = map (λ (n : ℕ). []) tenant.requests }

  -- the trail that the turns of these sessions make
  pub record IsTurned (sessions : List ℕ) (trail : List Event) : Type 0 where
    pub after : Turning
    pub turns : Turns sessions first_turning trail after
