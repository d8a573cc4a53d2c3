-- What a run has of its tenants (docs/platform.md, "Turns").
use Rattle.std.specs.Prelude.{◌≤◌, ◌<◌, List, [], ◌∷◌, length, All, Option, None, Some}
use Rattle.record_ids.specs.Ids.{most}
use Rattle.save_stages.specs.Does.{IsSound}
use Rattle.session_runs.specs.Sessions.{HaveUsers}
use Rattle.tenant_parts.specs.declared.session.Session.{Session}
use Rattle.attempt_run.specs.declared.plan.Plan.{Plan}

-- the requests of a session and their users have numbers of their own in Ids
abbrev pub HasNumbers : Session → Type 0
HasNumbers s = (length s.requests ≤ 1000000) × HaveUsers s.requests

-- so have sessions, and what each of them has
pub record HaveNumbers (sessions : List Session) : Type 0 where
  pub few : length sessions < most
  pub each : All HasNumbers sessions

pub record IsPlan (plan : Plan) : Type 0 where
  pub sound : IsSound plan.schema
  pub numbers : HaveNumbers plan.sessions

abbrev pub ArePlans : List (Option Plan) → Type 0
ArePlans [] = Unit {0}
ArePlans (None ∷ ps) = ArePlans ps
ArePlans (Some p ∷ ps) = IsPlan p × ArePlans ps
