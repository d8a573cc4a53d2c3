-- What the answers of `exec` say (docs/promises.md).
use Rattle.std.specs.Prelude.{◌≡◌, ◌⊎◌, ℕ, pos, List, [], ◌∷◌, ◌++◌, codes, Option, Some, None, Result, Ok, Err}
use Rattle.apex_requests.specs.declared.reply.Outcome.{Outcome}
use Rattle.apex_requests.specs.declared.reply.Outcome.TheVariants as O
use Rattle.apex_requests.specs.declared.reply.Reply.{Reply}
use Rattle.apex_requests.specs.declared.request.Ticket.{Ticket}
use Rattle.apex_requests.specs.declared.request.Work.TheVariants.{Apex}
use Rattle.apex_rows.specs.declared.row.Writes.{Writes}
use Rattle.apex_schema.specs.declared.schema.Schema.{Schema}
use Rattle.apex_syntax.specs.declared.unit.Unit.{Unit as Tree}
use Rattle.fault_words.specs.declared.fault.Fault.{Fault}
use Rattle.schema_plans.specs.declared.plan.SchemaPlan.{SchemaPlan}
use Rattle.schema_plans.specs.Schemas.{schema_of}
use Rattle.tenant_units.specs.Faults.{IsFaultOf, Tells}
use Rattle.tenant_units.specs.Trees.{block_rule, block_name, IsBlock}
use Rattle.type_names.specs.declared.fault.TreeFault.{TreeFault}
use Rattle.typed_program.specs.declared.program.Program.{Program}
use Rattle.typed_program.specs.declared.stmt.TypedStmt.{TypedStmt}
use Rattle.apex_types.specs.Checks.{Gives, checked}
use Rattle.request_states.specs.Runs.{Setting}
use Rattle.apex_meaning.specs.Runs.{run}
use Rattle.tenant_trails.specs.Runs.{Evaluates}
use Rattle.stack_code.specs.declared.image.Image.{Image}
use Rattle.stack_code.specs.Means.{Means}
use Rattle.metered_vm.specs.Runs.{plain}
use Rattle.session_runs.specs.Blocks.{RunsTo}
use Rattle.reply_text.specs.Lines.{fault_text, reply_text}
use Rattle.commands.specs.Answers.{Answered, Outside}

-- ---- what the block of `exec` finds around it

-- one user, and no object but the platform's own
abbrev pub plan : SchemaPlan
plan = record { roles = []; users = record { name = codes "user"; role = None } ∷ []; objects = [] }

abbrev pub schema : Schema
schema = schema_of plan

-- the first request of the first session, at 2000-01-01T00:00:00Z
abbrev pub ticket : Ticket
ticket = record { session = 0; index = 0; user = 0; now = pos 946684800 }

-- the program that has this block and nothing else
abbrev pub program_of : Result (List TypedStmt) TreeFault → Program
program_of block = record { classes = []; triggers = []; blocks = block ∷ [] }

abbrev pub setting : List TypedStmt → Setting
setting block = record { schema = schema; program = program_of (Ok block); ticket = ticket }

-- ---- bytes that are a block

-- the bytes are the text of a block, and the checker judges it so: its typed code, or its first fault
pub record IsJudged (bytes : List ℕ) (block : Result (List TypedStmt) TreeFault) : Type 0 where
  pub tree : Tree
  pub is_tree : IsBlock bytes tree
  pub judged : checked schema.objects [] (tree ∷ []) ≡ Gives (program_of block)

-- the bytes are this well-typed block
abbrev pub IsTyped : List ℕ → List TypedStmt → Type 0
IsTyped bytes block = IsJudged bytes (Ok block)

-- where there is no row, the block comes to this reply, and would write this, whatever rows it asks for alone
abbrev pub ComesTo : List TypedStmt → Reply → Writes → Type 0
ComesTo block reply writes = (grabs : List (List (List ℕ))) × Evaluates [] (run (setting block) (Apex 0)) reply writes grabs

-- it isn't refused: nothing stood in its way that isn't built
abbrev pub IsRun : Outcome → Type 0
IsRun O.Ok = Unit {0}
IsRun (O.Thrown class text) = Unit {0}
IsRun (O.Limit kind number) = Unit {0}
IsRun (O.Refused fault) = ⊥

-- the bytes are a well-typed block that runs
pub record IsInput (bytes : List ℕ) : Type 0 where
  pub block : List TypedStmt
  pub is : IsTyped bytes block
  pub reply : Reply
  pub writes : Writes
  pub comes : ComesTo block reply writes
  pub runs : IsRun reply.outcome

-- ---- the text of a run

-- the bytes are one block; the image that is kept is checked and means the program that has it; on the empty store its machine comes to this
-- reply, and counts so many steps; and the text is what is written of the reply
pub record Replied (image : Option Image) (bytes text : List ℕ) : Type 0 where
  pub block : List TypedStmt
  pub is : IsTyped bytes block
  pub only : (other : List TypedStmt) → IsTyped bytes other → other ≡ block
  pub kept : Image
  pub is_kept : image ≡ Some kept
  pub means : Means (program_of (Ok block)) kept
  pub reply : Reply
  pub writes : Writes
  pub comes : ComesTo block (plain reply) writes
  pub runs : IsRun reply.outcome
  pub machine : RunsTo schema ticket kept 0 [] reply writes
  pub prints : text ≡ reply_text reply

-- ---- why bytes aren't run

-- they are the text of a block that the checker refuses, and its first fault is told
pub record IsIllTyped (bytes : List ℕ) (told : Fault) : Type 0 where
  pub fault : TreeFault
  pub is : IsJudged bytes (Err fault)
  pub tells : Tells block_name bytes fault.at fault.word told

-- they are a well-typed block that comes to a form that isn't built
pub record IsUnbuilt (bytes : List ℕ) (told : Fault) : Type 0 where
  pub block : List TypedStmt
  pub is : IsTyped bytes block
  pub reply : Reply
  pub writes : Writes
  pub comes : ComesTo block reply writes
  pub refused : reply.outcome ≡ O.Refused told

-- the first fault of their tokens or of their tree; that of their types; or what isn't built
abbrev pub IsWhy : List ℕ → Fault → Type 0
IsWhy bytes told = IsFaultOf block_rule block_name bytes told ⊎ (IsIllTyped bytes told ⊎ IsUnbuilt bytes told)

abbrev pub refused_line : Fault → List ℕ
refused_line f = codes "refused " ++ fault_text f ++ 10 ∷ []

-- the bytes are no block that runs, no image is kept, and the line tells why
pub record IsRefused (image : Option Image) (bytes text : List ℕ) : Type 0 where
  pub none : IsInput bytes → ⊥
  pub nothing_kept : image ≡ None
  pub told : Fault
  pub why : IsWhy bytes told
  pub is : text ≡ refused_line told

-- a status of `exec`, and the image after it
abbrev pub Execs : Option Image → ℕ → Outside → Type 0
Execs image status s = Answered (Replied image) (IsRefused image) 7 IsInput status s
