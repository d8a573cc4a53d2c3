-- Attempts as they begin.
use Rattle.std.proofs.Common.{◌≡◌, ℕ, sym, subst, [], Option}
use Rattle.apex_requests.specs.declared.request.Ticket.{Ticket}
use Rattle.apex_requests.specs.declared.request.Work.{Work}
use Rattle.apex_schema.specs.declared.schema.Schema.{Schema}
use Rattle.stack_code.specs.declared.image.Image.{Image}
use Rattle.tenant_shards.specs.declared.log.Log.{Log}
use Rattle.tenant_shards.specs.Shards.{Shared}
use Rattle.session_turns.specs.declared.attempt.Attempt.{Attempt}
use Rattle.session_turns.specs.declared.attempt.Paused.{Paused}
use Rattle.session_turns.specs.Calls.{IsOn, no_log}
use Rattle.session_turns.specs.Turns.{IsEmpty, IsTried, Runs}

-- a log that is empty is none
pub as_no : (F : Log → Type 0) (log : Log) → IsEmpty log → F no_log → F log
as_no F log e h = subst (λ qs. F (record { asked = qs; answers = log.answers })) (sym e.0) (subst (λ gs. F (record { asked = []; answers = gs })) (sym e.1) h)

pub runs_empty : (schema : Schema) (image : Image) (ticket : Ticket) (work : Work) (log : Log) (m : Option Paused) → IsEmpty log → Runs schema image ticket work no_log m → Runs schema image ticket work log m
runs_empty schema image ticket work log m e h = as_no (λ l. Runs schema image ticket work l m) log e h

-- a request that has begun, or begun again, with the attempt that was made for it
pub tried : (schema : Schema) (image : Image) (ticket : Ticket) (work : Work) (tenant restarts : ℕ) (a : Attempt) (shard : Shared) → a.restarts ≡ restarts → IsEmpty a.log → Runs schema image ticket work a.log a.machine → IsOn schema image ticket work tenant restarts no_log shard → IsTried schema image ticket work tenant a shard
tried schema image ticket work tenant restarts a shard r e runs on = record {
  on = subst (λ n. IsOn schema image ticket work tenant n a.log shard) (sym r) (as_no (λ l. IsOn schema image ticket work tenant restarts l shard) a.log e on);
  runs = runs;
}
