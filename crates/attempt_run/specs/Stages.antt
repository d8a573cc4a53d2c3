-- The tenants of a shard while turns are made (docs/platform.md, "Turns").
use Rattle.std.specs.Prelude.{◌≡◌, ℕ, suc, Bool, true, false, List, [], ◌∷◌, map, replicate, length, slice_get, slice_set, Option, None, Some}
use Rattle.apex_rows.specs.declared.query.Answer.{Answer}
use Rattle.record_store.specs.Heaps.{rows_in}
use Rattle.legal_trails.specs.Legal.{Session as State}
use Rattle.legal_trails.specs.Served.{Pick, Place, RunsOut, Serves, Stage, TurnsAt, first_pick, first_stage}
use Rattle.session_states.specs.States.{fresh}
use Rattle.session_turns.specs.Calls.{Beside, IsRunSoFar}
use Rattle.session_turns.specs.Turns.{Stands, TurnsSo, tape_of}
use Rattle.session_turns.specs.declared.attempt.Standing.{Standing}
use Rattle.stack_code.specs.Means.{Means}
use Rattle.tenant_parts.specs.declared.part.TenantPart.{TenantPart}
use Rattle.tenant_parts.specs.declared.session.Session.{Session}
use Rattle.tenant_shards.specs.Parts.{seeded, tenant_of}
use Rattle.tenant_shards.specs.Shards.{Shared}
use Rattle.tenant_shards.specs.Tenants.{part_at, sessions_at, trail_in}
use Rattle.tenant_trails.specs.Runs.{Tenant}
use Rattle.attempt_run.specs.declared.plan.Plan.{Plan}
use Rattle.attempt_run.specs.Picks.{picked_by}

abbrev pub tapes_of : List Standing → List (List Answer)
tapes_of standings = map tape_of standings

-- how far a session of the plan is, which the shard has
abbrev pub IsStanding : Plan → ℕ → ℕ → Shared → Option Session → Option Standing → Option State → Type 0
IsStanding plan t s shard (Some session) (Some standing) (Some at) = Stands plan.schema plan.image session.requests t s standing shard
IsStanding plan t s shard None None None = Unit {0}
IsStanding plan t s shard _ _ _ = ⊥

-- tenant t of a shard, as the rules see it: its part, its trail, the state to which that leads, and the answers that the attempts
-- of its sessions have
pub record IsPlaced (plan : Plan) (standings : List Standing) (t : ℕ) (shard : Shared) (place : Place) : Type 0 where
  pub part : TenantPart
  pub is_part : part_at t shard.tenants ≡ Some part
  pub means : Means part.program plan.image
  pub schema_is : part.schema ≡ plan.schema
  pub sessions_are : part.sessions ≡ plan.sessions
  pub tenant_is : place.tenant ≡ tenant_of part
  pub trail_is : place.trail ≡ trail_in t shard.entries
  pub so_far : IsRunSoFar plan.image part t shard place.turning.state
  pub tapes : place.turning.tapes ≡ tapes_of standings
  pub each : (s : ℕ) → IsStanding plan t s shard (slice_get plan.sessions s) (slice_get standings s) (slice_get (sessions_at t shard.tenants) s)

abbrev pub IsPlacedBy : Option Plan → List Standing → ℕ → Shared → Option Place → Type 0
IsPlacedBy None standings t shard None = Unit {0}
IsPlacedBy (Some plan) standings t shard (Some place) = IsPlaced plan standings t shard place
IsPlacedBy _ standings t shard _ = ⊥

-- the tenants from number t on
abbrev pub ArePlaced : ℕ → List (Option Plan) → List (List Standing) → Shared → Stage → Type 0
ArePlaced t [] [] shard [] = Unit {0}
ArePlaced t (p ∷ ps) (standings ∷ more) shard (o ∷ places) = IsPlacedBy p standings t shard o × ArePlaced (suc t) ps more shard places
ArePlaced t _ _ shard _ = ⊥

abbrev pub HasPlace : Plan → List Standing → ℕ → Shared → Type 0
HasPlace plan standings t shard = (place : Place) × IsPlaced plan standings t shard place

abbrev pub HasStage : List (Option Plan) → List (List Standing) → Shared → Type 0
HasStage plans all shard = (stage : Stage) × ArePlaced 0 plans all shard stage

-- ---- turns

-- a session of the tenant made a turn
pub record TurnsIn (plan : Plan) (t s : ℕ) (standings later : List Standing) (before after : Shared) : Type 0 where
  pub session : Session
  pub is_session : slice_get plan.sessions s ≡ Some session
  pub old : Standing
  pub is_old : slice_get standings s ≡ Some old
  pub new : Standing
  pub later_is : later ≡ slice_set standings s new
  pub stands : Stands plan.schema plan.image session.requests t s new after
  pub turns : TurnsSo plan.image t s (tape_of old) (tape_of new) before after
  pub beside : Beside t s before after

-- from each stage that shows the tenants, one session made a turn
abbrev pub TurnsOn : List (Option Plan) → Pick → List (List Standing) → Shared → List (List Standing) → Shared → Type 0
TurnsOn plans pick all before later after =
    (stage : Stage) → ArePlaced 0 plans all before stage → (next : Stage) × TurnsAt pick stage next × ArePlaced 0 plans later after next

-- a shard has the same tenants as before, with the same parts
pub record SameParts (before after : Shared) : Type 0 where
  pub order : after.order ≡ before.order
  pub parts : (t : ℕ) → part_at t after.tenants ≡ part_at t before.tenants

-- the session that a turn of a list goes to made it; or there is none
abbrev pub TurnsListed : List (Option Plan) → Pick → List (List Standing) → Shared → List (List Standing) → Shared → Bool → Type 0
TurnsListed plans turn all before later after true = (pick : Pick) × (picked_by plans all turn ≡ Some pick) × TurnsOn plans pick all before later after
TurnsListed plans turn all before later after false = (picked_by plans all turn ≡ None) × (later ≡ all) × (after ≡ before)

abbrev pub RunsOutOn : List (Option Plan) → List (List Standing) → Shared → List (List Standing) → Shared → Type 0
RunsOutOn plans all before later after =
    (stage : Stage) → ArePlaced 0 plans all before stage → (n : ℕ) × (picks : List Pick) × (next : Stage) × RunsOut n stage picks next × ArePlaced 0 plans later after next

abbrev pub ServesOn : List (Option Plan) → List Pick → List (List Standing) → Shared → List (List Standing) → Shared → Type 0
ServesOn plans turns all before later after =
    (stage : Stage) → ArePlaced 0 plans all before stage → (picks : List Pick) × (next : Stage) × Serves turns stage picks next × ArePlaced 0 plans later after next × (first_pick 0 next ≡ None)

-- ---- as a shard begins

abbrev pub first_standing : Standing
first_standing = record { closed = 0; running = None }

-- none of the sessions has opened a request
abbrev pub first_in : Option Plan → List Standing
first_in None = []
first_in (Some plan) = replicate (length plan.sessions) first_standing

-- the tenant has the plan's schema and sessions and a program that its image means, the rows of its seed, and has done nothing
pub record IsNew (plan : Plan) (t : ℕ) (shard : Shared) (tenant : Tenant) : Type 0 where
  pub part : TenantPart
  pub is_part : part_at t shard.tenants ≡ Some part
  pub means : Means part.program plan.image
  pub schema_is : part.schema ≡ plan.schema
  pub sessions_are : part.sessions ≡ plan.sessions
  pub tenant_is : tenant ≡ tenant_of part
  pub rows : rows_in t shard.rows ≡ seeded part.seed
  pub sessions : sessions_at t shard.tenants ≡ replicate (length part.sessions) fresh

abbrev pub IsNewBy : Option Plan → ℕ → Shared → Option Tenant → Type 0
IsNewBy None t shard None = Unit {0}
IsNewBy (Some plan) t shard (Some tenant) = IsNew plan t shard tenant
IsNewBy _ t shard _ = ⊥

abbrev pub AreNew : ℕ → List (Option Plan) → Shared → List (Option Tenant) → Type 0
AreNew t [] shard [] = Unit {0}
AreNew t (p ∷ ps) shard (o ∷ tenants) = IsNewBy p t shard o × AreNew (suc t) ps shard tenants
AreNew t _ shard _ = ⊥

-- so the shard begins: nothing has happened, and nothing is held
pub record Begins (plans : List (Option Plan)) (shard : Shared) (tenants : List (Option Tenant)) : Type 0 where
  pub new : AreNew 0 plans shard tenants
  pub locks : shard.locks ≡ []
  pub entries : shard.entries ≡ []

-- ---- as it ends

-- the turns of the list were served, and those behind it, of the sessions that `picks` tells, and led to the tenants as the shard has them then; no
-- session has a request that isn't closed
pub record AreServed (plans : List (Option Plan)) (tenants : List (Option Tenant)) (turns : List Pick) (after : Shared) : Type 0 where
  pub picks : List Pick
  pub stage : Stage
  pub serves : Serves turns (first_stage tenants) picks stage
  pub standings : List (List Standing)
  pub placed : ArePlaced 0 plans standings after stage
  pub finished : first_pick 0 stage ≡ None
