-- What a request comes to on a tape (docs/language.md, "What code does").
use Rattle.std.specs.Prelude.{ℕ, List, [], slice_get, Option, None, Some, Result, Ok}
use Rattle.apex_num.specs.declared.kind.LimitKind.TheVariants.{Queries, Rows, Dml, Saved, Steps}
use Rattle.apex_rows.specs.declared.query.Answer.{Answer}
use Rattle.apex_requests.specs.declared.reply.Counts.{Counts}
use Rattle.apex_requests.specs.declared.reply.Outcome.{Outcome}
use Rattle.apex_requests.specs.declared.reply.Outcome.TheVariants as O
use Rattle.apex_requests.specs.declared.reply.Reply.{Reply}
use Rattle.apex_requests.specs.declared.request.Ticket.{Ticket}
use Rattle.apex_schema.specs.declared.schema.Schema.{Schema}
use Rattle.limit_meter.specs.Charges.{Entry, counter}
use Rattle.save_meaning.specs.Sites.{Site}
use Rattle.tenant_trails.specs.Runs.{Run, Ends}
use Rattle.txn_overlay.specs.Changes.{writes_of}
use Rattle.type_names.specs.declared.fault.TreeFault.{TreeFault}
use Rattle.typed_program.specs.declared.program.Program.{Program}
use Rattle.typed_program.specs.declared.stmt.TypedStmt.{TypedStmt}
use Rattle.apex_schema.specs.declared.schema.Mode.TheVariants.{Sharing}
use Rattle.request_states.specs.States.{World, State}
use Rattle.request_states.specs.Values.{null}

abbrev pub counts_of : List Entry → Counts
counts_of charges = record {
  queries = counter Queries charges;
  rows = counter Rows charges;
  dml = counter Dml charges;
  saved = counter Saved charges;
  steps = counter Steps charges;
}

-- the machine's steps are no part of a meaning
abbrev pub ended : Outcome → World → Reply
ended o w = record { outcome = o; debug = w.debug; counts = counts_of w.txn.charges; ops = 0 }

-- nothing is charged, made or changed; a block runs on no instance, with sharing, in no firing of a trigger
abbrev pub first_state : List Answer → State
first_state tape = record {
  here = record { locals = []; this = null; mode = Sharing; firing = 0 };
  world = record { txn = record { overlay = []; minted = 0; charges = []; tape = tape }; heap = []; statics = []; debug = [] };
}

-- a request that came to its end
abbrev pub whole : Ticket → World → Run
whole ticket w = Ends (ended O.Ok w) (writes_of ticket.session ticket.index w.txn.overlay)

-- ---- requests

-- what a run takes from outside: the schema and the code of the tenant, and the ticket of the request
pub record Setting : Type 0 where
  pub schema : Schema
  pub program : Program
  pub ticket : Ticket

abbrev pub site_of : Setting → Site
site_of setting = record { schema = setting.schema; ticket = setting.ticket }

-- the statements of a block, or none where its code has a fault
abbrev pub stmts_of : Result (List TypedStmt) TreeFault → Option (List TypedStmt)
stmts_of (Ok stmts) = Some stmts
stmts_of _ = None

abbrev pub stmts_or : Option (Result (List TypedStmt) TreeFault) → Option (List TypedStmt)
stmts_or None = None
stmts_or (Some block) = stmts_of block

-- a block by its number
abbrev pub block_at : Program → ℕ → Option (List TypedStmt)
block_at program n = stmts_or (slice_get program.blocks n)
