-- What the tenants of a run come to (docs/platform.md, "Trails", "Turns").
use Rattle.std.specs.Prelude.{◌≡◌, ℕ, suc, List, [], ◌∷◌, map, Option, None, Some}
use Rattle.apex_requests.specs.declared.reply.Event.{Event}
use Rattle.attempt_run.specs.Picks.{pick_of}
use Rattle.attempt_run.specs.Plans.{HaveNumbers}
use Rattle.legal_trails.specs.Legal.{Closed}
use Rattle.legal_trails.specs.Served.{Pick, Place, Serves, Stage, first_stage, own}
use Rattle.legal_trails.specs.Turns.{IsTurned}
use Rattle.save_stages.specs.Does.{IsSound}
use Rattle.session_runs.specs.Replies.{IsRunOf}
use Rattle.stack_code.specs.Means.{Means}
use Rattle.stack_code.specs.declared.image.Image.{Image}
use Rattle.tenant_parts.specs.declared.part.TenantPart.{TenantPart}
use Rattle.tenant_shards.specs.Parts.{tenant_of}
use Rattle.tenant_trails.specs.Runs.{Tenant}
use Rattle.turn_lists.specs.declared.turn.Turn.{Turn}

-- ---- the parts of the tenants of a bundle in their order; none where one isn't deployed

-- Ids have room for its objects and users, for its sessions and for their requests
abbrev pub HasRoom : TenantPart → Type 0
HasRoom part = IsSound part.schema × HaveNumbers part.sessions

abbrev pub AllHaveRoom : List (Option TenantPart) → Type 0
AllHaveRoom [] = Unit {0}
AllHaveRoom (None ∷ ps) = AllHaveRoom ps
AllHaveRoom (Some p ∷ ps) = HasRoom p × AllHaveRoom ps

abbrev pub tenant_in : Option TenantPart → Option Tenant
tenant_in None = None
tenant_in (Some part) = Some (tenant_of part)

abbrev pub tenants_of : List (Option TenantPart) → List (Option Tenant)
tenants_of parts = map tenant_in parts

-- ---- one tenant

-- the image means its program; the trail is the one that turns of these sessions make; it is legal, so that each reply is what the
-- request comes to on the rows at its end, and closes each request of each session; and each reply is the machine's on these rows
pub record IsRan (part : TenantPart) (image : Image) (sessions : List ℕ) (trail : List Event) : Type 0 where
  pub means : Means part.program image
  pub turned : IsTurned (tenant_of part) sessions trail
  pub closed : Closed (tenant_of part) trail
  pub runs : IsRunOf part image trail

-- a tenant that isn't deployed has no image, and nothing happens to it
abbrev pub IsRanBy : Option TenantPart → Option Image → List ℕ → List Event → Type 0
IsRanBy None None sessions trail = trail ≡ []
IsRanBy (Some part) (Some image) sessions trail = IsRan part image sessions trail
IsRanBy None (Some image) sessions trail = ⊥
IsRanBy (Some part) None sessions trail = ⊥

-- ---- all of them

-- each tenant, from number t on, by those of the turns that were its own
abbrev pub EachRan : List Pick → ℕ → List (Option TenantPart) → List (Option Image) → List (List Event) → Type 0
EachRan picks t [] images trails = (images ≡ []) × (trails ≡ [])
EachRan picks t (p ∷ ps) (image ∷ images) (trail ∷ trails) = IsRanBy p image (own t picks) trail × EachRan picks (suc t) ps images trails
EachRan picks t (p ∷ ps) _ _ = ⊥

abbrev pub trail_at : Option Place → List Event
trail_at None = []
trail_at (Some place) = place.trail

abbrev pub trails_of : Stage → List (List Event)
trails_of stage = map trail_at stage

-- the turns of the list and those behind it were made, by the sessions that the rules pick, and the trails are those to which they
-- led
pub record AreRan (parts : List (Option TenantPart)) (turns : List Turn) (images : List (Option Image)) (trails : List (List Event)) : Type 0 where
  pub picks : List Pick
  pub stage : Stage
  pub serves : Serves (map pick_of turns) (first_stage (tenants_of parts)) picks stage
  pub are : trails ≡ trails_of stage
  pub each : EachRan picks 0 parts images trails
