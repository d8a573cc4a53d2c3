-- What is to be shown of turns.
use Rattle.std.specs.Prelude.{◌≡◌, ℕ, List, slice_get, Option, Some}
use Rattle.apex_requests.specs.declared.reply.Event.{Event}
use Rattle.tenant_trails.specs.Runs.{Tenant}
use Rattle.legal_trails.specs.Legal.{Legal}
use Rattle.legal_trails.specs.Turns.{IsTurned}
use Rattle.legal_trails.specs.Served.{Pick, Place, Serves, Stage, first_stage, own}

-- what turns make is legal
abbrev pub TurnsAreLegal : Type 0
TurnsAreLegal = (tenant : Tenant) (sessions : List ℕ) (trail : List Event) → IsTurned tenant sessions trail → Legal tenant trail

-- where a bundle's turns were served, each tenant's trail is the one that the turns of its own sessions make
abbrev pub ServedIsTurned : Type 0
ServedIsTurned =
    (tenants : List (Option Tenant)) (turns picks : List Pick) (after : Stage) → Serves turns (first_stage tenants) picks after → (t : ℕ) (place : Place) → slice_get after t ≡ Some (Some place) →
    (slice_get tenants t ≡ Some (Some place.tenant)) × IsTurned place.tenant (own t picks) place.trail
