-- What is to be shown of trails.
use Rattle.std.specs.Prelude.{◌≡◌, ℕ, List, [], ◌∷◌}
use Rattle.apex_requests.specs.declared.reply.Event.{Event}
use Rattle.apex_requests.specs.declared.reply.EventKind.{EventKind}
use Rattle.apex_requests.specs.declared.reply.EventKind.TheVariants.{Start, Grab, Refuse, Restart, End}
use Rattle.tenant_trails.specs.Runs.{Tenant}
use Rattle.legal_trails.specs.Legal.{Legal}

abbrev pub NotRefused : EventKind → Type 0
NotRefused (Start i) = Unit {0}
NotRefused Grab = Unit {0}
NotRefused (Refuse row by) = ⊥
NotRefused Restart = Unit {0}
NotRefused (End reply) = Unit {0}

abbrev pub NoneRefused : List Event → Type 0
NoneRefused [] = Unit {0}
NoneRefused (e ∷ es) = NotRefused e.kind × NoneRefused es

-- a tenant with one session never gets `locked`
abbrev pub OneSessionIsNeverRefused : Type 0
OneSessionIsNeverRefused = (tenant : Tenant) (n : ℕ) (trail : List Event) → tenant.requests ≡ n ∷ [] → Legal tenant trail → NoneRefused trail
