-- Trails whose replies are those of the machine (docs/platform.md, "Trails").
use Rattle.std.specs.Prelude.{◌≡◌, ℕ, List, [], ◌∷◌, slice_get, map, Option, None, Some}
use Rattle.apex_requests.specs.declared.reply.Event.{Event}
use Rattle.apex_requests.specs.declared.reply.EventKind.{EventKind}
use Rattle.apex_requests.specs.declared.reply.EventKind.TheVariants.{Start, Grab, Refuse, Restart, End}
use Rattle.apex_requests.specs.declared.reply.Reply.{Reply}
use Rattle.apex_requests.specs.declared.request.Request.{Request}
use Rattle.apex_rows.specs.declared.row.Row.{Row}
use Rattle.apex_rows.specs.declared.row.Writes.{Writes}
use Rattle.legal_trails.specs.Legal.{Open, Session, State, Step, first_state}
use Rattle.stack_code.specs.declared.image.Image.{Image}
use Rattle.tenant_parts.specs.declared.part.TenantPart.{TenantPart}
use Rattle.tenant_shards.specs.Parts.{counts_of, request_at, tenant_of, ticket_of}
use Rattle.session_runs.specs.Sessions.{EndsWork}

-- the open request of a session
abbrev pub open_in : Option Session → Option Open
open_in None = None
open_in (Some session) = session.running

module _ (part : TenantPart) (image : Image) where
  -- on these rows request i of session s comes to the reply by the image, its steps told with it
  abbrev pub Replies : List Row → ℕ → ℕ → Option Request → Reply → Type 0
  Replies store s i None reply = ⊥
  Replies store s i (Some r) reply = (writes : Writes) × EndsWork part.schema (ticket_of r s i) image r.work store reply writes

  abbrev pub RepliesOpen : List Row → ℕ → Option Open → Reply → Type 0
  RepliesOpen store s None reply = ⊥
  RepliesOpen store s (Some o) reply = Replies store s o.request (request_at part.sessions s o.request) reply

  -- the reply of an end is the one of the open request on the rows before it
  abbrev pub RepliesAt : State → ℕ → EventKind → Type 0
  RepliesAt st s (Start i) = Unit {0}
  RepliesAt st s Grab = Unit {0}
  RepliesAt st s (Refuse row by) = Unit {0}
  RepliesAt st s Restart = Unit {0}
  RepliesAt st s (End reply) = RepliesOpen st.store s (open_in (slice_get st.sessions s)) reply

  -- a legal trail, from one state to another, each reply of which is so
  abbrev pub RunsFrom : State → List Event → State → Type 0
  RunsFrom st [] after = after ≡ st
  RunsFrom st (e ∷ es) after = (mid : State) × Step (tenant_of part) st e mid × RepliesAt st e.session e.kind × RunsFrom mid es after

  -- from the tenant's first rows on, and each request is closed
  pub record IsRunOf (trail : List Event) : Type 0 where
    pub after : State
    pub is : RunsFrom (first_state (tenant_of part)) trail after
    pub sessions : after.sessions ≡ map (λ (n : ℕ). record { closed = n; running = None }) (counts_of part.sessions)
