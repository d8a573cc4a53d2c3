-- What the requests of a session come to by an image (docs/platform.md, "Trails").
use Rattle.std.specs.Prelude.{◌≡◌, ◌<◌, ℕ, suc, List, [], ◌∷◌, Option, None, Some}
use Rattle.apex_requests.specs.declared.reply.Reply.{Reply}
use Rattle.apex_requests.specs.declared.request.Request.{Request}
use Rattle.apex_requests.specs.declared.request.Ticket.{Ticket}
use Rattle.apex_requests.specs.declared.request.Work.{Work}
use Rattle.apex_requests.specs.declared.request.Work.TheVariants.{Apex, Save, Refused}
use Rattle.apex_rows.specs.declared.row.Row.{Row}
use Rattle.apex_rows.specs.declared.row.Writes.{Writes}
use Rattle.apex_schema.specs.declared.schema.Schema.{Schema}
use Rattle.record_ids.specs.Ids.{most}
use Rattle.request_states.specs.Refusals.{refusal, not_yet, no_writes}
use Rattle.stack_code.specs.Means.{block_in}
use Rattle.stack_code.specs.declared.image.Code.{Code}
use Rattle.stack_code.specs.declared.image.Image.{Image}
use Rattle.session_runs.specs.Blocks.{RunsTo}

-- each request is of a user who has an Id
abbrev pub HaveUsers : List Request → Type 0
HaveUsers [] = Unit {0}
HaveUsers (r ∷ rs) = (suc r.user < most) × HaveUsers rs

-- a block that an image has no code of is refused
abbrev pub EndsBlock : Schema → Ticket → Image → ℕ → Option Code → List Row → Reply → Writes → Type 0
EndsBlock schema ticket image n None store reply writes = (reply ≡ refusal not_yet) × (writes ≡ no_writes)
EndsBlock schema ticket image n (Some code) store reply writes = RunsTo schema ticket image n store reply writes

-- on these rows a request comes to this reply, its steps told with it, and to these writes
abbrev pub EndsWork : Schema → Ticket → Image → Work → List Row → Reply → Writes → Type 0
EndsWork schema ticket image (Apex n) store reply writes = EndsBlock schema ticket image n (block_in image n) store reply writes
EndsWork schema ticket image (Save op object all rows) store reply writes = (reply ≡ refusal not_yet) × (writes ≡ no_writes)
EndsWork schema ticket image (Refused f) store reply writes = (reply ≡ refusal f) × (writes ≡ no_writes)
