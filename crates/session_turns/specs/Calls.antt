-- The open request of a session, pause by pause (docs/platform.md, "Turns").
use Rattle.std.specs.Prelude.{◌≡◌, ◌⊎◌, ℕ, ◌+◌, ◌<◌, ◌≤◌, Bool, false, true, List, [], ◌∷◌, ◌++◌, length, slice_get, slice_set, Option, None, Some}
use Rattle.apex_requests.specs.declared.reply.EventKind.{EventKind}
use Rattle.apex_requests.specs.declared.reply.EventKind.TheVariants.{Grab as GrabEvent, Refuse, End}
use Rattle.apex_requests.specs.declared.reply.Reply.{Reply}
use Rattle.apex_requests.specs.declared.request.Request.{Request}
use Rattle.apex_requests.specs.declared.request.Ticket.{Ticket}
use Rattle.apex_requests.specs.declared.request.Work.{Work}
use Rattle.apex_requests.specs.declared.request.Work.TheVariants.{Apex}
use Rattle.apex_rows.specs.declared.query.Answer.{Answer}
use Rattle.apex_rows.specs.declared.query.Question.{Question}
use Rattle.apex_rows.specs.declared.query.Question.TheVariants.{Read, Grab}
use Rattle.apex_rows.specs.declared.row.Writes.{Writes}
use Rattle.apex_schema.specs.declared.schema.Schema.{Schema}
use Rattle.apex_meaning.specs.Runs.{run}
use Rattle.record_store.specs.Heaps.{rows_in}
use Rattle.record_store.specs.Places.{answer_to}
use Rattle.row_locks.specs.Holders.{FirstHeld, NoneHeld, but}
use Rattle.row_locks.specs.Locks.{holder_of}
use Rattle.row_meaning.specs.Stores.{has_id, taken}
use Rattle.legal_trails.specs.Legal.{Session, State, all_ids, first_state, holder, is_by, some_writes, told as hears}
use Rattle.legal_trails.specs.Turns.{Moves, events_of}
use Rattle.tenant_trails.specs.Runs.{Asks, Run, grabs_on}
use Rattle.tenant_parts.specs.declared.part.TenantPart.{TenantPart}
use Rattle.tenant_shards.specs.declared.change.Change.TheVariants.{Closes, Grabs}
use Rattle.tenant_shards.specs.declared.log.Log.{Log}
use Rattle.tenant_shards.specs.Logs.{IsCurrent, IsLogOf, IsStale}
use Rattle.tenant_shards.specs.Parts.{request_at, tenant_of, ticket_of}
use Rattle.tenant_shards.specs.Shards.{Happens, HasLog, HasOpen, Keeps, RestartsSo, Shared, freed, holding, run_of}
use Rattle.tenant_shards.specs.Tenants.{part_at, sessions_at, trail_in}
use Rattle.stack_code.specs.Means.{Means, block_in, is_there}
use Rattle.stack_code.specs.declared.image.Image.{Image}
use Rattle.metered_vm.specs.Keeps.{Stands}
use Rattle.metered_vm.specs.Runs.{Ran, told}
use Rattle.metered_vm.specs.declared.run.Vm.{Vm}
use Rattle.session_runs.specs.Replies.{RunsFrom}
use Rattle.session_turns.specs.declared.calls.Next.{Next}
use Rattle.session_turns.specs.declared.calls.Next.TheVariants.{Goes, Again, Over}

-- ---- the trail so far

-- the tenant's trail is legal, each reply in it is the machine's, and it leads to this state, which is what the shard has of
-- the tenant
pub record IsRunSoFar (image : Image) (part : TenantPart) (tenant : ℕ) (shard : Shared) (after : State) : Type 0 where
  pub is : RunsFrom part image (first_state (tenant_of part)) (trail_in tenant shard.entries) after
  pub store : after.store ≡ rows_in tenant shard.rows
  pub sessions : after.sessions ≡ sessions_at tenant shard.tenants
  pub held : (id : List ℕ) → holder after.held id ≡ holder_of tenant shard.locks id

-- ---- a move of a session: what it does to its tenant

-- from this state the session makes its move, with this event or none: the answers that its attempt had are these later, and the
-- trail so far leads on to what the shard has then
pub record MovesFrom (part : TenantPart) (image : Image) (tenant s : ℕ) (tape : List Answer) (kind : Option EventKind) (later : List Answer) (after : Shared) (st : State) : Type 0 where
  pub next : State
  pub so_far : IsRunSoFar image part tenant after next
  pub moves : (tapes : List (List Answer)) → slice_get tapes s ≡ Some tape → Moves (tenant_of part) s (record { state = st; tapes = tapes }) kind (record { state = next; tapes = slice_set tapes s later })

pub record MovesSo (image : Image) (tenant s : ℕ) (tape later : List Answer) (before after : Shared) : Type 0 where
  pub kind : Option EventKind
  pub entries : trail_in tenant after.entries ≡ trail_in tenant before.entries ++ events_of s kind
  pub from : (part : TenantPart) → part_at tenant before.tenants ≡ Some part → (st : State) → IsRunSoFar image part tenant before st → MovesFrom part image tenant s tape kind later after st

-- ---- what stays

-- a session but for the news that another one has written
abbrev pub but_news : Option Session → Option Session
but_news None = None
but_news (Some session) = Some (record session { running = hears session.running })

-- a session of the tenant and the rows are as they were, or it has heard that another one has written
abbrev pub IsUndisturbed : ℕ → ℕ → Shared → Shared → Type 0
IsUndisturbed tenant t before after =
    ((slice_get (sessions_at tenant after.tenants) t ≡ slice_get (sessions_at tenant before.tenants) t) × (rows_in tenant after.rows ≡ rows_in tenant before.rows))
    ⊎ (slice_get (sessions_at tenant after.tenants) t ≡ but_news (slice_get (sessions_at tenant before.tenants) t))

-- a session's calls change nothing of any other tenant; other sessions of its tenant are undisturbed, and hold what they held
pub record Beside (tenant s : ℕ) (before after : Shared) : Type 0 where
  pub keeps : Keeps tenant before after
  pub sessions : (t : ℕ) → (t ≡ s → ⊥) → IsUndisturbed tenant t before after
  pub held : (id : List ℕ) → but s (holder_of tenant after.locks id) ≡ but s (holder_of tenant before.locks id)

-- ---- between two requests

-- so many requests are closed, and none is open
abbrev pub closed_session : ℕ → Session
closed_session n = record { closed = n; running = None }

-- the session has closed i requests; none of it is open, and it holds no row
pub record IsClosed (tenant s i : ℕ) (shard : Shared) : Type 0 where
  pub session : slice_get (sessions_at tenant shard.tenants) s ≡ Some (closed_session i)
  pub free : (id : List ℕ) → is_by s (holder_of tenant shard.locks id) ≡ false

-- ---- an attempt

abbrev pub no_log : Log
no_log = record { asked = []; answers = [] }

-- the work of the request that has this ticket, on a tape of answers
abbrev pub go_of : Schema → TenantPart → Ticket → Work → List Answer → Run
go_of schema part ticket work tape = run (record { schema = schema; program = part.program; ticket = ticket }) work tape

-- a session that has closed i requests, and the next one of which is open: since it began, or began again so often, it was
-- granted so many lists of rows, and it may be that another session has written
abbrev pub open_session : ℕ → ℕ → ℕ → Bool → Session
open_session i grabs restarts moved = record { closed = i; running = Some (record { request = i; grabs = grabs; restarts = restarts; moved = moved }) }

-- the request with this ticket is open, and began again so often; it has asked what its log says, and those rows that were
-- granted are held. Where no other session has written, the rows would answer the same now
pub record IsOn (schema : Schema) (image : Image) (ticket : Ticket) (work : Work) (tenant restarts : ℕ) (log : Log) (shard : Shared) : Type 0 where
  pub part : TenantPart
  pub is_part : part_at tenant shard.tenants ≡ Some part
  pub means : Means part.program image
  pub schema_is : part.schema ≡ schema
  pub request : Request
  pub is_request : request_at part.sessions ticket.session ticket.index ≡ Some request
  pub ticket_is : ticket ≡ ticket_of request ticket.session ticket.index
  pub work_is : work ≡ request.work
  pub moved : Bool
  pub session : slice_get (sessions_at tenant shard.tenants) ticket.session ≡ Some (open_session ticket.index (length (grabs_on (go_of schema part ticket work) [] log.answers)) restarts moved)
  pub asks : IsLogOf (go_of schema part ticket work) [] log.asked log.answers
  pub holds : (id : List ℕ) → is_by ticket.session (holder_of tenant shard.locks id) ≡ has_id (all_ids (grabs_on (go_of schema part ticket work) [] log.answers)) id
  pub seen : moved ≡ false → IsCurrent (rows_in tenant shard.rows) log
  pub few : restarts ≤ 3

-- an attempt that began again three times has no answer that differs now
abbrev pub IsLast : ℕ → ℕ → Log → Shared → Type 0
IsLast tenant restarts log shard = restarts ≡ 3 → IsCurrent (rows_in tenant shard.rows) log

-- where its machine stands before it goes on: on the answers of the log, the last of which may be given still
pub record IsAt (schema : Schema) (image : Image) (ticket : Ticket) (block tenant restarts : ℕ) (vm : Vm) (answer : Option Answer) (log : Log) (shard : Shared) : Type 0 where
  pub on : IsOn schema image ticket (Apex block) tenant restarts log shard
  pub has_code : is_there (block_in image block) ≡ true
  pub ran : Ran schema ticket image block log.answers vm.ops (told answer vm.config)
  pub stands : Stands image vm.config

-- what is current stays so
abbrev pub StaysCurrent : ℕ → Log → Shared → Log → Shared → Type 0
StaysCurrent tenant log shard later after = IsCurrent (rows_in tenant shard.rows) log → IsCurrent (rows_in tenant after.rows) later

-- it goes on with an answer, begins again with no answers, or is closed
abbrev pub GoesOn : Schema → Image → Ticket → ℕ → ℕ → ℕ → Log → Shared → Vm → Log → Shared → Next → Type 0
GoesOn schema image ticket block tenant restarts log shard vm later after (Goes a) =
    IsAt schema image ticket block tenant restarts vm (Some a) later after × StaysCurrent tenant log shard later after
GoesOn schema image ticket block tenant restarts log shard vm later after Again = (restarts < 3) × IsOn schema image ticket (Apex block) tenant (restarts + 1) no_log after
GoesOn schema image ticket block tenant restarts log shard vm later after Over = IsClosed tenant ticket.session (ticket.index + 1) after

-- the answers that it has then
abbrev pub later_tape : Next → List Answer → List Answer
later_tape (Goes a) tape = tape
later_tape Again tape = []
later_tape Over tape = []

-- ---- a question

-- the open request asks this on the answers of its log
pub record MayAsk (shard : Shared) (tenant s : ℕ) (log : Log) (question : Question) : Type 0 where
  pub log_is : HasLog shard tenant s log
  pub next : run_of log_is.has log.answers ≡ Asks question

-- where an answer of its log differs now, another session has written, and the request began again fewer than three times
pub record MayBeginAgain (shard : Shared) (tenant s : ℕ) (log : Log) : Type 0 where
  pub has : HasOpen shard tenant s
  pub seen : has.o.moved ≡ false → IsCurrent (rows_in tenant shard.rows) log
  pub few : (IsCurrent (rows_in tenant shard.rows) log → ⊥) → has.o.restarts < 3

-- an answer of the log isn't what the rows answer now, and the request begins again
abbrev pub IsAgain : ℕ → ℕ → Log → Shared → Shared → Type 0
IsAgain tenant s log before after = (k : ℕ) × IsStale (rows_in tenant before.rows) log k × RestartsSo tenant s before after

-- rows are answered, and nothing changes; rows alone are granted, where no answer differs, and the session holds them
abbrev pub IsMet : ℕ → ℕ → Log → Question → Shared → Shared → Type 0
IsMet tenant s log (Read object cond) before after = after ≡ before
IsMet tenant s log (Grab ids) before after =
    IsCurrent (rows_in tenant before.rows) log × NoneHeld (holder_of tenant before.locks) s ids
    × Happens tenant s GrabEvent Grabs (rows_in tenant before.rows) (holding s ids (holder_of tenant before.locks)) before after

-- no answer differs, another session holds one of them, and the request is closed
abbrev pub IsRefused : ℕ → ℕ → Log → Question → Shared → Shared → Type 0
IsRefused tenant s log (Read object cond) before after = ⊥
IsRefused tenant s log (Grab ids) before after =
    (row : List ℕ) × (by : ℕ) × IsCurrent (rows_in tenant before.rows) log × FirstHeld (holder_of tenant before.locks) s ids row by
    × Happens tenant s (Refuse row by) (Closes false) (rows_in tenant before.rows) (freed s (holder_of tenant before.locks)) before after

-- only at a question for rows alone is the log compared
abbrev pub BeginsAgain : ℕ → ℕ → Log → Question → Shared → Shared → Type 0
BeginsAgain tenant s log (Read object cond) before after = ⊥
BeginsAgain tenant s log (Grab ids) before after = IsAgain tenant s log before after

abbrev pub Answers : ℕ → ℕ → Log → Question → Shared → Shared → Next → Type 0
Answers tenant s log question before after (Goes a) = (a ≡ answer_to (rows_in tenant before.rows) question) × IsMet tenant s log question before after
Answers tenant s log question before after Again = BeginsAgain tenant s log question before after
Answers tenant s log question before after Over = IsRefused tenant s log question before after

-- the question and its answer join the log where the request goes on
abbrev pub Logs : Log → Question → Log → Next → Type 0
Logs log question later (Goes a) = (later.asked ≡ log.asked ++ question ∷ []) × (later.answers ≡ log.answers ++ a ∷ [])
Logs log question later Again = Unit {0}
Logs log question later Over = Unit {0}

-- ---- the end

abbrev pub EndsIn : ℕ → ℕ → Log → Reply → Writes → Shared → Shared → Next → Type 0
EndsIn tenant s log reply writes before after (Goes a) = ⊥
EndsIn tenant s log reply writes before after Again = IsAgain tenant s log before after
EndsIn tenant s log reply writes before after Over =
    IsCurrent (rows_in tenant before.rows) log
    × Happens tenant s (End reply) (Closes (some_writes writes)) (taken writes (rows_in tenant before.rows)) (freed s (holder_of tenant before.locks)) before after
