-- A session of a shard's tenant, turn by turn (docs/platform.md, "Turns").
use Rattle.std.specs.Prelude.{◌≡◌, ℕ, ◌+◌, ◌<◌, ◌≤◌, Bool, false, true, List, [], ◌++◌, length, slice_get, slice_set, Option, None, Some}
use Rattle.apex_requests.specs.declared.reply.Event.{Event}
use Rattle.apex_requests.specs.declared.request.Op.{Op}
use Rattle.apex_requests.specs.declared.request.Request.{Request}
use Rattle.apex_requests.specs.declared.request.Ticket.{Ticket}
use Rattle.apex_requests.specs.declared.request.Work.{Work}
use Rattle.apex_requests.specs.declared.request.Work.TheVariants.{Apex, Save, Refused}
use Rattle.apex_rows.specs.declared.query.Answer.{Answer}
use Rattle.apex_schema.specs.declared.schema.Schema.{Schema}
use Rattle.fault_words.specs.declared.fault.Fault.{Fault}
use Rattle.request_states.specs.Refusals.{not_yet}
use Rattle.legal_trails.specs.Legal.{State}
use Rattle.legal_trails.specs.Turns.{Finishes, Turn}
use Rattle.tenant_parts.specs.declared.part.TenantPart.{TenantPart}
use Rattle.tenant_parts.specs.declared.session.Session.{Session as Planned}
use Rattle.tenant_shards.specs.declared.log.Log.{Log}
use Rattle.tenant_shards.specs.Parts.{request_at, tenant_of, ticket_of}
use Rattle.tenant_shards.specs.Shards.{Shared}
use Rattle.tenant_shards.specs.Tenants.{part_at, trail_in}
use Rattle.stack_code.specs.Means.{Means, block_in, is_there}
use Rattle.stack_code.specs.declared.image.Image.{Image}
use Rattle.metered_vm.specs.Keeps.{Stands as VmStands}
use Rattle.metered_vm.specs.Runs.{Ran, told}
use Rattle.session_turns.specs.declared.attempt.Attempt.{Attempt}
use Rattle.session_turns.specs.declared.attempt.Paused.{Paused}
use Rattle.session_turns.specs.declared.attempt.Standing.{Standing}
use Rattle.session_turns.specs.declared.attempt.Served.{Served}
use Rattle.session_turns.specs.declared.attempt.Served.TheVariants.{Waits, Restarted, Closed}
use Rattle.session_turns.specs.Calls.{IsAt, IsClosed, IsOn, IsRunSoFar, StaysCurrent, no_log}

-- ---- what a session is

-- the tenant has this schema, its program is what the image means, and its session s has these requests
pub record HasRequests (schema : Schema) (image : Image) (requests : List Request) (tenant s : ℕ) (shard : Shared) : Type 0 where
  pub part : TenantPart
  pub is_part : part_at tenant shard.tenants ≡ Some part
  pub means : Means part.program image
  pub schema_is : part.schema ≡ schema
  pub session : Planned
  pub is_session : slice_get part.sessions s ≡ Some session
  pub requests_are : session.requests ≡ requests

-- ---- an attempt

abbrev pub IsEmpty : Log → Type 0
IsEmpty log = (log.asked ≡ []) × (log.answers ≡ [])

-- a request runs where its image has the code of its block; every other one is refused before it asks anything
abbrev pub is_run : Image → Work → Bool
is_run image (Apex n) = is_there (block_in image n)
is_run image (Save op object all rows) = false
is_run image (Refused f) = false

-- a machine stands on the answers of a log, the last of which may be given still
pub record RunsOn (schema : Schema) (image : Image) (ticket : Ticket) (work : Work) (log : Log) (m : Paused) : Type 0 where
  pub block_is : work ≡ Apex m.block
  pub has_code : is_there (block_in image m.block) ≡ true
  pub ran : Ran schema ticket image m.block log.answers m.vm.ops (told m.answer m.vm.config)
  pub stands : VmStands image m.vm.config

-- a request that is refused has no machine, and asks nothing
abbrev pub Runs : Schema → Image → Ticket → Work → Log → Option Paused → Type 0
Runs schema image ticket work log None = (is_run image work ≡ false) × IsEmpty log
Runs schema image ticket work log (Some m) = RunsOn schema image ticket work log m

-- the request is open, and its attempt stands on the answers of its log
pub record IsTried (schema : Schema) (image : Image) (ticket : Ticket) (work : Work) (tenant : ℕ) (a : Attempt) (shard : Shared) : Type 0 where
  pub on : IsOn schema image ticket work tenant a.restarts a.log shard
  pub runs : Runs schema image ticket work a.log a.machine

-- why a request is refused that has no machine
abbrev pub why : Work → Fault
why (Apex n) = not_yet
why (Save op object all rows) = not_yet
why (Refused f) = f

-- ---- a pause of a machine

abbrev pub IsAtMachine : Schema → Image → Ticket → ℕ → ℕ → Paused → Log → Shared → Type 0
IsAtMachine schema image ticket tenant restarts m log shard = IsAt schema image ticket m.block tenant restarts m.vm m.answer log shard

-- where its next pause was served: it goes on, the request has begun again, or is closed
abbrev pub MachineGoes : Schema → Image → Ticket → ℕ → ℕ → Paused → Log → Shared → Paused → Log → Shared → Served → Type 0
MachineGoes schema image ticket tenant restarts m log shard n later after Waits =
    (n.block ≡ m.block) × IsAtMachine schema image ticket tenant restarts n later after × StaysCurrent tenant log shard later after
MachineGoes schema image ticket tenant restarts m log shard n later after Restarted = (restarts < 3) × IsOn schema image ticket (Apex m.block) tenant (restarts + 1) no_log after
MachineGoes schema image ticket tenant restarts m log shard n later after Closed = IsClosed tenant ticket.session (ticket.index + 1) after

-- the answers that a request has behind a pause
abbrev pub tape_behind : Served → Log → List Answer
tape_behind Waits log = log.answers
tape_behind Restarted log = []
tape_behind Closed log = []

-- ---- a pause of an attempt

-- where its next pause was served, but an attempt of the request that begins again isn't made yet
abbrev pub IsPaused : Schema → Image → Ticket → Work → ℕ → Attempt → Shared → Attempt → Shared → Served → Type 0
IsPaused schema image ticket work tenant a shard later after Waits =
    IsTried schema image ticket work tenant later after × (later.restarts ≡ a.restarts) × StaysCurrent tenant a.log shard later.log after
IsPaused schema image ticket work tenant a shard later after Restarted = (a.restarts < 3) × IsOn schema image ticket work tenant (a.restarts + 1) no_log after
IsPaused schema image ticket work tenant a shard later after Closed = IsClosed tenant ticket.session (ticket.index + 1) after

-- where its next pause was served: it goes on, has begun again, or is over
abbrev pub IsServed : Schema → Image → Ticket → Work → ℕ → Attempt → Shared → Attempt → Shared → Served → Type 0
IsServed schema image ticket work tenant a shard later after Waits =
    IsTried schema image ticket work tenant later after × (later.restarts ≡ a.restarts) × StaysCurrent tenant a.log shard later.log after
IsServed schema image ticket work tenant a shard later after Restarted =
    (a.restarts < 3) × IsTried schema image ticket work tenant later after × IsEmpty later.log
IsServed schema image ticket work tenant a shard later after Closed = IsClosed tenant ticket.session (ticket.index + 1) after

-- ---- between two turns

-- a request is open between two turns: an attempt that began again three times has asked nothing yet
pub record IsOpen (schema : Schema) (image : Image) (requests : List Request) (tenant s i : ℕ) (a : Attempt) (shard : Shared) : Type 0 where
  pub request : Request
  pub is_request : slice_get requests i ≡ Some request
  pub tried : IsTried schema image (ticket_of request s i) request.work tenant a shard
  pub last : a.restarts ≡ 3 → IsEmpty a.log

abbrev pub StandsBy : Schema → Image → List Request → ℕ → ℕ → ℕ → Option Attempt → Shared → Type 0
StandsBy schema image requests tenant s i None shard = IsClosed tenant s i shard × (i ≤ length requests)
StandsBy schema image requests tenant s i (Some a) shard = IsOpen schema image requests tenant s i a shard

-- how far a session is
abbrev pub Stands : Schema → Image → List Request → ℕ → ℕ → Standing → Shared → Type 0
Stands schema image requests tenant s standing shard = StandsBy schema image requests tenant s standing.closed standing.running shard

-- the answers of a session's open attempt
abbrev pub tape_in : Option Attempt → List Answer
tape_in None = []
tape_in (Some a) = a.log.answers

abbrev pub tape_of : Standing → List Answer
tape_of standing = tape_in standing.running

-- ---- a turn

-- request i of session s is this one
pub record HasRequest (schema : Schema) (image : Image) (request : Request) (tenant s i : ℕ) (shard : Shared) : Type 0 where
  pub part : TenantPart
  pub is_part : part_at tenant shard.tenants ≡ Some part
  pub means : Means part.program image
  pub schema_is : part.schema ≡ schema
  pub is_there : request_at part.sessions s i ≡ Some request

-- it has begun
pub record Begins (schema : Schema) (image : Image) (request : Request) (tenant s : ℕ) (old new : Standing) (shard : Shared) : Type 0 where
  pub closed : new.closed ≡ old.closed
  pub a : Attempt
  pub running : new.running ≡ Some a
  pub tried : IsTried schema image (ticket_of request s old.closed) request.work tenant a shard
  pub fresh : a.restarts ≡ 0

-- behind a turn of its attempt a request is closed, or it is open
abbrev pub IsAfter : Schema → Image → Ticket → Work → ℕ → Attempt → Shared → Bool → Type 0
IsAfter schema image ticket work tenant a shard true = IsClosed tenant ticket.session (ticket.index + 1) shard
IsAfter schema image ticket work tenant a shard false = IsTried schema image ticket work tenant a shard × (a.restarts ≡ 3 → IsEmpty a.log)

abbrev pub tape_left : Bool → Attempt → List Answer
tape_left true a = []
tape_left false a = a.log.answers

-- from this state the session makes its turn, with these events, and the trail so far leads on to what the shard has then
pub record TurnsFrom (part : TenantPart) (image : Image) (tenant s : ℕ) (tape : List Answer) (events : List Event) (later : List Answer) (after : Shared) (st : State) : Type 0 where
  pub next : State
  pub so_far : IsRunSoFar image part tenant after next
  pub turn : (tapes : List (List Answer)) → slice_get tapes s ≡ Some tape → Turn (tenant_of part) s (record { state = st; tapes = tapes }) events (record { state = next; tapes = slice_set tapes s later })

-- the same, where an open request goes on to its end
pub record FinishesFrom (part : TenantPart) (image : Image) (tenant s : ℕ) (tape : List Answer) (events : List Event) (after : Shared) (st : State) : Type 0 where
  pub next : State
  pub so_far : IsRunSoFar image part tenant after next
  pub finishes : (tapes : List (List Answer)) → slice_get tapes s ≡ Some tape → (many : ℕ) × Finishes (tenant_of part) many s (record { state = st; tapes = tapes }) events (record { state = next; tapes = slice_set tapes s [] })

pub record FinishesSo (image : Image) (tenant s : ℕ) (tape : List Answer) (before after : Shared) : Type 0 where
  pub events : List Event
  pub entries : trail_in tenant after.entries ≡ trail_in tenant before.entries ++ events
  pub from : (part : TenantPart) → part_at tenant before.tenants ≡ Some part → (st : State) → IsRunSoFar image part tenant before st → FinishesFrom part image tenant s tape events after st

pub record TurnsSo (image : Image) (tenant s : ℕ) (tape later : List Answer) (before after : Shared) : Type 0 where
  pub events : List Event
  pub entries : trail_in tenant after.entries ≡ trail_in tenant before.entries ++ events
  pub from : (part : TenantPart) → part_at tenant before.tenants ≡ Some part → (st : State) → IsRunSoFar image part tenant before st → TurnsFrom part image tenant s tape events later after st
