-- What is to be shown of requests that run blocks.
use Rattle.std.specs.Prelude.{◌≡◌, ℕ, List, Some}
use Rattle.apex_requests.specs.declared.reply.Reply.{Reply}
use Rattle.apex_requests.specs.declared.request.Ticket.{Ticket}
use Rattle.apex_rows.specs.declared.row.Row.{Row}
use Rattle.apex_rows.specs.declared.row.Writes.{Writes}
use Rattle.apex_schema.specs.declared.schema.Schema.{Schema}
use Rattle.tenant_trails.specs.Runs.{Evaluates}
use Rattle.typed_program.specs.declared.program.Program.{Program}
use Rattle.typed_program.specs.declared.stmt.TypedStmt.{TypedStmt}
use Rattle.request_states.specs.Runs.{block_at}
use Rattle.apex_meaning.specs.Runs.{block_run}
use Rattle.stack_code.specs.Means.{Means}
use Rattle.stack_code.specs.declared.image.Image.{Image}
use Rattle.metered_vm.specs.Runs.{plain}
use Rattle.session_runs.specs.Blocks.{RunsTo}

-- what an image comes to on rows, from the start of a block, is what that block of the program comes to that it means
abbrev pub ImagesEvaluateBlocks : Type 0
ImagesEvaluateBlocks =
    (schema : Schema) (program : Program) (ticket : Ticket) (image : Image) (n : ℕ) (block : List TypedStmt) (store : List Row) (reply : Reply) (writes : Writes) → Means program image → block_at program n ≡ Some block → RunsTo schema ticket image n store reply writes →
    (grabs : List (List (List ℕ))) × Evaluates store (block_run (record { schema = schema; program = program; ticket = ticket }) block) (plain reply) writes grabs
