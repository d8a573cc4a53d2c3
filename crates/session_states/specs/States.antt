-- The sessions of a tenant as the rules of trails see them (docs/platform.md, "Shards").
use Rattle.std.specs.Prelude.{◌≡◌, ℕ, ◌+◌, ◌≤◌, nat_lt, Bool, true, false, List, [], ◌∷◌, slice_get, Option, None, Some}
use Rattle.legal_trails.specs.Legal.{Open, Session, again, begun}
use Rattle.session_states.specs.declared.state.OpenRequest.{OpenRequest}
use Rattle.session_states.specs.declared.state.SessionState.{SessionState}

-- ---- what is seen, where so many requests of the tenant have written

abbrev pub open_of : ℕ → OpenRequest → Open
open_of writes o = record { request = o.request; grabs = o.grabs; restarts = o.restarts; moved = nat_lt o.since writes }

abbrev pub running_of : ℕ → Option OpenRequest → Option Open
running_of writes None = None
running_of writes (Some o) = Some (open_of writes o)

abbrev pub session_of : ℕ → SessionState → Session
session_of writes s = record { closed = s.closed; running = running_of writes s.running }

abbrev pub sessions_of : ℕ → List SessionState → List Session
sessions_of writes [] = []
sessions_of writes (s ∷ ss) = session_of writes s ∷ sessions_of writes ss

-- no request began behind what was written
abbrev pub IsSince : ℕ → Option OpenRequest → Type 0
IsSince writes None = Unit {0}
IsSince writes (Some o) = o.since ≤ writes

abbrev pub AllSince : ℕ → List SessionState → Type 0
AllSince writes [] = Unit {0}
AllSince writes (s ∷ ss) = IsSince writes s.running × AllSince writes ss

-- ---- one session is changed

abbrev pub opened : ℕ → SessionState → SessionState
opened since s = record s { running = Some (record { request = s.closed; grabs = 0; restarts = 0; since = since }) }

abbrev pub granted_open : OpenRequest → OpenRequest
granted_open o = record o { grabs = o.grabs + 1 }

abbrev pub granted_in : Option OpenRequest → Option OpenRequest
granted_in None = None
granted_in (Some o) = Some (granted_open o)

abbrev pub granted : SessionState → SessionState
granted s = record s { running = granted_in s.running }

abbrev pub again_open : ℕ → OpenRequest → OpenRequest
again_open since o = record { request = o.request; grabs = 0; restarts = o.restarts + 1; since = since }

abbrev pub again_in : ℕ → Option OpenRequest → Option OpenRequest
again_in since None = None
again_in since (Some o) = Some (again_open since o)

abbrev pub begun_again : ℕ → SessionState → SessionState
begun_again since s = record s { running = again_in since s.running }

abbrev pub closed : SessionState → SessionState
closed s = record { closed = s.closed + 1; running = None }

-- how many requests have written behind one more
abbrev pub behind : Bool → ℕ → ℕ
behind true writes = writes + 1
behind false writes = writes

-- ---- as the rules see it

abbrev pub fresh : Session
fresh = record { closed = 0; running = None }

-- a session of the tenant
abbrev pub IsThere : List Session → ℕ → Type 0
IsThere sessions s = (at : Session) × (slice_get sessions s ≡ Some at)

abbrev pub opens : Session → Session
opens at = record at { running = Some (begun at.closed) }

abbrev pub grants_in : Option Open → Option Open
grants_in None = None
grants_in (Some o) = Some (record o { grabs = o.grabs + 1 })

abbrev pub grants : Session → Session
grants at = record at { running = grants_in at.running }

abbrev pub begins_in : Option Open → Option Open
begins_in None = None
begins_in (Some o) = Some (again o)

abbrev pub begins_again : Session → Session
begins_again at = record at { running = begins_in at.running }
