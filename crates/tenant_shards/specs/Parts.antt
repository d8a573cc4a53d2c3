-- What the requests of a tenant's part do (docs/platform.md, "Trails").
use Rattle.std.specs.Prelude.{ℕ, List, [], length, map, slice_get, Option, None, Some}
use Rattle.apex_meaning.specs.Runs.{run}
use Rattle.apex_requests.specs.declared.reply.Outcome.TheVariants as Outcome
use Rattle.apex_requests.specs.declared.reply.Reply.{Reply}
use Rattle.apex_requests.specs.declared.request.Request.{Request}
use Rattle.apex_requests.specs.declared.request.Ticket.{Ticket}
use Rattle.apex_rows.specs.declared.query.Answer.{Answer}
use Rattle.apex_rows.specs.declared.row.Row.{Row}
use Rattle.row_meaning.specs.Stores.{taken}
use Rattle.tenant_parts.specs.declared.part.TenantPart.{TenantPart}
use Rattle.tenant_parts.specs.declared.session.Session.{Session}
use Rattle.tenant_trails.specs.Runs.{Run, Ends, Tenant}

-- request i of session s
abbrev pub ticket_of : Request → ℕ → ℕ → Ticket
ticket_of r s i = record { session = s; index = i; user = r.user; now = r.now }

abbrev pub request_in : Option Session → ℕ → Option Request
request_in None i = None
request_in (Some session) i = slice_get session.requests i

abbrev pub request_at : List Session → ℕ → ℕ → Option Request
request_at sessions s i = request_in (slice_get sessions s) i

-- where there is no such request
abbrev pub no_reply : Reply
no_reply = record { outcome = Outcome.Ok; debug = []; counts = record { queries = 0; rows = 0; dml = 0; saved = 0; steps = 0 }; ops = 0 }

abbrev pub request_run : TenantPart → Option Request → ℕ → ℕ → List Answer → Run
request_run part None s i tape = Ends no_reply (record { puts = []; drops = [] })
request_run part (Some r) s i tape = run (record { schema = part.schema; program = part.program; ticket = ticket_of r s i }) r.work tape

-- a seed as a store has it, in the order of the Ids
abbrev pub seeded : List Row → List Row
seeded seed = taken (record { puts = seed; drops = [] }) []

-- how many requests each session has
abbrev pub counts_of : List Session → List ℕ
counts_of sessions = map (λ (s : Session). length s.requests) sessions

-- a part as the rules of trails see it
abbrev pub tenant_of : TenantPart → Tenant
tenant_of part = record {
  seed = seeded part.seed;
  requests = counts_of part.sessions;
  run = λ s i. request_run part (request_at part.sessions s i) s i;
}
