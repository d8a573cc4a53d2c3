-- The tenants of a run on their way.
use Rattle.std.specs.Prelude.{◌≡◌, ℕ, suc, List, [], ◌∷◌, map, slice_set, Option, None, Some}
use Rattle.apex_requests.specs.declared.reply.Event.{Event}
use Rattle.attempt_run.specs.declared.plan.Plan.{Plan}
use Rattle.stack_code.specs.Means.{Means}
use Rattle.stack_code.specs.declared.image.Image.{Image}
use Rattle.tenant_parts.specs.declared.part.TenantPart.{TenantPart}
use Rattle.tenant_shards.specs.declared.finish.Finished.{Finished}

-- the image means the tenant's program, and the plan has its schema and its sessions
pub record IsPlanned (part : TenantPart) (plan : Plan) : Type 0 where
  pub means : Means part.program plan.image
  pub schema : plan.schema ≡ part.schema
  pub sessions : plan.sessions ≡ part.sessions

abbrev pub IsPlannedBy : Option TenantPart → Option Plan → Type 0
IsPlannedBy None None = Unit {0}
IsPlannedBy (Some part) (Some plan) = IsPlanned part plan
IsPlannedBy None (Some plan) = ⊥
IsPlannedBy (Some part) None = ⊥

abbrev pub ArePlanned : List (Option TenantPart) → List (Option Plan) → Type 0
ArePlanned [] plans = plans ≡ []
ArePlanned (p ∷ ps) [] = ⊥
ArePlanned (p ∷ ps) (plan ∷ plans) = IsPlannedBy p plan × ArePlanned ps plans

-- those that are there, with their numbers
abbrev pub numbered : ℕ → List (Option TenantPart) → List (ℕ × TenantPart)
numbered t [] = []
numbered t (None ∷ ps) = numbered (suc t) ps
numbered t (Some p ∷ ps) = (t, p) ∷ numbered (suc t) ps

abbrev pub image_in : Option Plan → Option Image
image_in None = None
image_in (Some plan) = Some plan.image

abbrev pub images_in : List (Option Plan) → List (Option Image)
images_in plans = map image_in plans

-- each tenant that the shard left has its trail
abbrev pub dealt : List (List Event) → List Finished → List (List Event)
dealt trails [] = trails
dealt trails (f ∷ left) = dealt (slice_set trails f.tenant f.trail) left
