-- Requests that are refused before they ask anything.
use Rattle.std.proofs.Common.{◌≡◌, refl, sym, ap, subst, ◌∙◌, ℕ, ◌+◌, List, [], false}
use Rattle.apex_requests.specs.declared.reply.Reply.{Reply}
use Rattle.apex_requests.specs.declared.request.Ticket.{Ticket}
use Rattle.apex_requests.specs.declared.request.Work.{Work}
use Rattle.apex_requests.specs.declared.request.Work.TheVariants.{Apex, Save, Refused}
use Rattle.apex_rows.specs.declared.row.Row.{Row}
use Rattle.apex_rows.specs.declared.row.Writes.{Writes}
use Rattle.apex_schema.specs.declared.schema.Schema.{Schema}
use Rattle.legal_trails.specs.Legal.{SameReply}
use Rattle.request_states.specs.Refusals.{no_writes, not_yet, refusal}
use Rattle.request_states.specs.Runs.{block_at}
use Rattle.tenant_trails.specs.Runs.{Ends}
use Rattle.stack_code.specs.Means.{Means, block_in}
use Rattle.stack_code.specs.declared.image.Image.{Image}
use Rattle.tenant_parts.specs.declared.part.TenantPart.{TenantPart}
use Rattle.tenant_shards.specs.declared.log.Log.{Log}
use Rattle.tenant_shards.specs.Logs.{AreCurrent, IsCurrent}
use Rattle.tenant_shards.specs.Shards.{MayEnd, Shared}
use Rattle.record_store.specs.Heaps.{rows_in}
use Rattle.session_turns.specs.declared.calls.Next.TheVariants.{Over}
use Rattle.session_turns.specs.Calls.{EndsIn, IsClosed, IsLast, IsOn, MayBeginAgain, MovesSo, go_of}
use Rattle.session_runs.specs.Sessions.{EndsWork}
use Rattle.session_turns.specs.Turns.{IsEmpty, is_run, why}
use Rattle.session_turns.proofs.Attempts.{ended_closes, ended_moves, may_begin_again, may_end}
use Rattle.session_turns.proofs.Machine.{no_code, none_goes}

goes : (schema : Schema) (image : Image) (ticket : Ticket) (part : TenantPart) → Means part.program image → (work : Work) → is_run image work ≡ false → go_of schema part ticket work [] ≡ Ends (refusal (why work)) no_writes
goes schema image ticket part means (Apex n) none = none_goes schema part ticket n (block_at part.program n) refl (sym (means.blocks n) ∙ none) []
goes schema image ticket part means (Save op object all rows) none = refl
goes schema image ticket part means (Refused f) none = refl

ends : (schema : Schema) (image : Image) (ticket : Ticket) (rows : List Row) (work : Work) → is_run image work ≡ false → EndsWork schema ticket image work rows (refusal (why work)) no_writes
ends schema image ticket rows (Apex n) none = no_code image n schema ticket rows (refusal not_yet) no_writes (block_in image n) none (refl, refl)
ends schema image ticket rows (Save op object all records) none = (refl, refl)
ends schema image ticket rows (Refused f) none = (refl, refl)

-- an empty log has no answer that differs
pub empty_current : (rows : List Row) (log : Log) → IsEmpty log → IsCurrent rows log
empty_current rows log e = subst (λ qs. AreCurrent rows qs log.answers) (sym e.0) (subst (λ gs. AreCurrent rows [] gs) (sym e.1) tt)

module _ (schema : Schema) (image : Image) (ticket : Ticket) (work : Work) (tenant restarts : ℕ) (log : Log) (shard : Shared) (on : IsOn schema image ticket work tenant restarts log shard) (none : is_run image work ≡ false) (empty : IsEmpty log)
    (reply : Reply) (writes : Writes) (is : reply ≡ refusal (why work)) (nothing : writes ≡ no_writes) where
  last : IsLast tenant restarts log shard
  last e = empty_current (rows_in tenant shard.rows) log empty

  end : go_of schema on.part ticket work log.answers ≡ Ends (refusal (why work)) writes
  end = ap (go_of schema on.part ticket work) empty.1 ∙ goes schema image ticket on.part on.means work none ∙ ap (Ends (refusal (why work))) (sym nothing)

  same : SameReply reply (refusal (why work))
  same = subst (λ r. SameReply r (refusal (why work))) (sym is) (record { outcome = refl; debug = refl; counts = refl })

  pub may : MayEnd shard tenant ticket.session log reply writes
  may = may_end schema image ticket work tenant restarts log shard on reply (refusal (why work)) writes end same

  pub again : MayBeginAgain shard tenant ticket.session log
  again = may_begin_again schema image ticket work tenant restarts log shard on last

  comes : IsCurrent (rows_in tenant shard.rows) log → EndsWork schema ticket image work (rows_in tenant shard.rows) reply writes
  comes current =
      subst (λ r. EndsWork schema ticket image work (rows_in tenant shard.rows) r writes) (sym is)
      (subst (λ w. EndsWork schema ticket image work (rows_in tenant shard.rows) (refusal (why work)) w) (sym nothing) (ends schema image ticket (rows_in tenant shard.rows) work none))

  pub closes : (after : Shared) → EndsIn tenant ticket.session log reply writes shard after Over → IsClosed tenant ticket.session (ticket.index + 1) after
  closes after h = ended_closes schema image ticket work tenant restarts log shard on reply (refusal (why work)) writes end after h

  pub moves : (after : Shared) → EndsIn tenant ticket.session log reply writes shard after Over → MovesSo image tenant ticket.session log.answers [] shard after
  moves after h = ended_moves schema image ticket work tenant restarts log shard on reply (refusal (why work)) writes end after same comes h
