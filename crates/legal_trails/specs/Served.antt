-- Whose turn it is (docs/formats.md, "Turns").
use Rattle.std.specs.Prelude.{◌≡◌, ℕ, zero, suc, ◌+◌, cond, eqb, nat_lt, Bool, false, List, [], ◌∷◌, ◌++◌, filter, map, slice_get, slice_set, Option, None, Some}
use Rattle.apex_requests.specs.declared.reply.Event.{Event}
use Rattle.tenant_trails.specs.Runs.{Tenant}
use Rattle.legal_trails.specs.Legal.{Session}
use Rattle.legal_trails.specs.Turns.{Turning, Turn, first_turning}

-- the number of a tenant, and that of one of its sessions
abbrev pub Pick : Type 0
Pick = ℕ × ℕ

-- a tenant that is deployed, how it stands, and its events so far
pub record Place : Type 0 where
  pub tenant : Tenant
  pub turning : Turning
  pub trail : List Event

-- the tenants of a bundle in their order; none where one isn't deployed
abbrev pub Stage : Type 0
Stage = List (Option Place)

-- ---- sessions with requests that aren't closed

abbrev pub first_from : ℕ → List ℕ → List Session → Option ℕ
first_from s (n ∷ ns) (session ∷ sessions) = cond (nat_lt session.closed n) (Some s) (first_from (s + 1) ns sessions)
first_from s _ _ = None

-- the first such session of a tenant
abbrev pub first_in : Option Place → Option ℕ
first_in None = None
first_in (Some place) = first_from 0 place.tenant.requests place.turning.state.sessions

abbrev pub or_picked : ℕ → Option ℕ → Option Pick → Option Pick
or_picked t None later = later
or_picked t (Some s) later = Some (t, s)

-- the first one of a bundle, where the tenants are numbered from t on
abbrev pub first_pick : ℕ → Stage → Option Pick
first_pick t [] = None
first_pick t (place ∷ places) = or_picked t (first_in place) (first_pick (t + 1) places)

abbrev pub is_below : Option ℕ → Option Session → Bool
is_below (Some n) (Some session) = nat_lt session.closed n
is_below _ _ = false

abbrev pub is_unfinished_in : Option (Option Place) → ℕ → Bool
is_unfinished_in (Some (Some place)) s = is_below (slice_get place.tenant.requests s) (slice_get place.turning.state.sessions s)
is_unfinished_in _ s = false

-- a turn that names no such session goes to the first one
abbrev pub picked : Stage → Pick → Option Pick
picked stage turn = cond (is_unfinished_in (slice_get stage turn.0) turn.1) (Some turn) (first_pick 0 stage)

-- ---- turns

-- the session makes its turn, and nothing changes of any other tenant
pub record TurnsAt (pick : Pick) (before after : Stage) : Type 0 where
  pub place : Place
  pub is_place : slice_get before pick.0 ≡ Some (Some place)
  pub events : List Event
  pub turning : Turning
  pub turn : Turn place.tenant pick.1 place.turning events turning
  pub then : after ≡ slice_set before pick.0 (Some (record { tenant = place.tenant; turning = turning; trail = place.trail ++ events }))

-- behind the list sessions run to their ends, the first one first
abbrev pub RunsOut : ℕ → Stage → List Pick → Stage → Type 0
RunsOut zero before picks after = (first_pick 0 before ≡ None) × (picks ≡ []) × (after ≡ before)
RunsOut (suc n) before picks after = (pick : Pick) × (first_pick 0 before ≡ Some pick) × (mid : Stage) × (rest : List Pick) × TurnsAt pick before mid × RunsOut n mid rest after × (picks ≡ pick ∷ rest)

abbrev pub ServesBy : Option Pick → Stage → List Pick → Stage → (Stage → List Pick → Type 0) → Type 0
ServesBy None before picks after later = (picks ≡ []) × (after ≡ before)
ServesBy (Some pick) before picks after later = (mid : Stage) × (rest : List Pick) × TurnsAt pick before mid × later mid rest × (picks ≡ pick ∷ rest)

-- the turns of a list, and those behind it: whose they are, and what they leave
abbrev pub Serves : List Pick → Stage → List Pick → Stage → Type 0
Serves [] before picks after = (n : ℕ) × RunsOut n before picks after
Serves (turn ∷ turns) before picks after = ServesBy (picked before turn) before picks after (λ mid rest. Serves turns mid rest after)

abbrev pub placed : Option Tenant → Option Place
placed None = None
placed (Some tenant) = Some (record { tenant = tenant; turning = first_turning tenant; trail = [] })

abbrev pub first_stage : List (Option Tenant) → Stage
first_stage tenants = map placed tenants

-- the sessions of one tenant among those whose turn it was
abbrev pub own : ℕ → List Pick → List ℕ
own t picks = map (λ (p : Pick). p.1) (filter (λ (p : Pick). eqb p.0 t) picks)
