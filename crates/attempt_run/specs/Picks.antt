-- Whose turn it is, by how far the sessions are (docs/platform.md, "Turns").
use Rattle.std.specs.Prelude.{◌≡◌, ◌⊎◌, ℕ, ◌+◌, ◌<◌, nat_lt, cond, Bool, false, true, List, ◌∷◌, length, slice_get, Option, None, Some}
use Rattle.legal_trails.specs.Served.{Pick, or_picked}
use Rattle.session_turns.specs.declared.attempt.Standing.{Standing}
use Rattle.tenant_parts.specs.declared.session.Session.{Session}
use Rattle.turn_lists.specs.declared.turn.Turn.{Turn}
use Rattle.attempt_run.specs.declared.picks.Cursor.{Cursor}
use Rattle.attempt_run.specs.declared.plan.Plan.{Plan}

-- a turn of a list as the rules see it
abbrev pub pick_of : Turn → Pick
pick_of turn = (turn.tenant, turn.session)

-- the session has a request that isn't closed
abbrev pub is_unfinished : Option Session → Option Standing → Bool
is_unfinished (Some session) (Some standing) = nat_lt standing.closed (length session.requests)
is_unfinished _ _ = false

abbrev pub unfinished_of : List Session → List Standing → ℕ → Bool
unfinished_of sessions standings s = is_unfinished (slice_get sessions s) (slice_get standings s)

-- the first such session, where they are numbered from s on
abbrev pub first_of : ℕ → List Session → List Standing → Option ℕ
first_of s (p ∷ ps) (x ∷ xs) = cond (nat_lt x.closed (length p.requests)) (Some s) (first_of (s + 1) ps xs)
first_of s _ _ = None

abbrev pub first_in : Option Plan → List Standing → Option ℕ
first_in None standings = None
first_in (Some plan) standings = first_of 0 plan.sessions standings

-- the first one of all tenants, where they are numbered from t on
abbrev pub first_of_all : ℕ → List (Option Plan) → List (List Standing) → Option Pick
first_of_all t (p ∷ ps) (standings ∷ more) = or_picked t (first_in p standings) (first_of_all (t + 1) ps more)
first_of_all t _ _ = None

abbrev pub unfinished_in : Option (Option Plan) → Option (List Standing) → ℕ → Bool
unfinished_in (Some (Some plan)) (Some standings) s = unfinished_of plan.sessions standings s
unfinished_in _ _ s = false

-- a turn that names no such session goes to the first one
abbrev pub picked_by : List (Option Plan) → List (List Standing) → Pick → Option Pick
picked_by plans all turn = cond (unfinished_in (slice_get plans turn.0) (slice_get all turn.0) turn.1) (Some turn) (first_of_all 0 plans all)

-- ---- where the first one is looked for

-- of some numbers, none is below this one
abbrev pub NoneBelow : ℕ → (ℕ → Bool) → Type 0
NoneBelow n has = (s : ℕ) → s < n → has s ≡ false

-- the least of them, or there are none
abbrev pub IsFirst : (ℕ → Bool) → Option ℕ → Type 0
IsFirst has None = (s : ℕ) → has s ≡ false
IsFirst has (Some s) = NoneBelow s has × (has s ≡ true)

-- a session stands before a place
abbrev pub IsBefore : ℕ → ℕ → Cursor → Type 0
IsBefore t s cursor = (t < cursor.tenant) ⊎ ((t ≡ cursor.tenant) × (s < cursor.session))

-- no session before it has a request that isn't closed
abbrev pub HasPassed : List (Option Plan) → List (List Standing) → Cursor → Type 0
HasPassed plans all cursor = (t s : ℕ) → IsBefore t s cursor → unfinished_in (slice_get plans t) (slice_get all t) s ≡ false

-- the place of the first one, or there is none
abbrev pub IsFound : List (Option Plan) → List (List Standing) → Option Cursor → Type 0
IsFound plans all None = first_of_all 0 plans all ≡ None
IsFound plans all (Some cursor) = HasPassed plans all cursor × (first_of_all 0 plans all ≡ Some (cursor.tenant, cursor.session))

-- only this session may have closed a request
abbrev pub OthersStay : List (Option Plan) → Pick → List (List Standing) → List (List Standing) → Type 0
OthersStay plans pick all later =
    (t s : ℕ) → (t ≡ pick.0 → s ≡ pick.1 → ⊥) → unfinished_in (slice_get plans t) (slice_get later t) s ≡ unfinished_in (slice_get plans t) (slice_get all t) s
