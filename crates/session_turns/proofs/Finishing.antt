-- An attempt that began again three times, on the way to its end.
use Rattle.std.proofs.Common.{arith, ◌≡◌, sym, subst, ◌∙◌, ℕ, ◌+◌, ◌<◌, List, []}
use Rattle.apex_requests.specs.declared.request.Ticket.{Ticket}
use Rattle.apex_requests.specs.declared.request.Work.{Work}
use Rattle.apex_rows.specs.declared.query.Answer.{Answer}
use Rattle.apex_schema.specs.declared.schema.Schema.{Schema}
use Rattle.record_store.specs.Heaps.{rows_in}
use Rattle.stack_code.specs.declared.image.Image.{Image}
use Rattle.tenant_shards.specs.Logs.{IsCurrent}
use Rattle.tenant_shards.specs.Shards.{Shared}
use Rattle.session_turns.specs.declared.attempt.Attempt.{Attempt}
use Rattle.session_turns.specs.declared.attempt.Served.TheVariants.{Waits, Restarted, Closed}
use Rattle.session_turns.specs.Calls.{Beside, MovesSo}
use Rattle.session_turns.specs.Turns.{FinishesSo, IsServed, IsTried}
use Rattle.session_turns.proofs.Frames.{first, then}
use Rattle.session_turns.proofs.Turning.{IsOnTheWay, first_way, is_over, one_more}

module _ (schema : Schema) (image : Image) (ticket : Ticket) (work : Work) (tenant : ℕ) (tape : List Answer) (start : Shared) where
  -- no answer differs
  pub record IsLastOnTheWay (a : Attempt) (shard : Shared) : Type 0 where
    pub tried : IsTried schema image ticket work tenant a shard
    pub last : a.restarts ≡ 3
    pub current : IsCurrent (rows_in tenant shard.rows) a.log
    pub way : IsOnTheWay image tenant ticket.session tape a.log.answers start shard

  module _ (a : Attempt) (shard : Shared) (w : IsLastOnTheWay a shard) (b : Attempt) (after : Shared) (beside : Beside tenant ticket.session shard after) where
    all_beside : Beside tenant ticket.session start after
    all_beside = then tenant ticket.session start shard after w.way.beside beside

    moves_on : (later : List Answer) → MovesSo image tenant ticket.session a.log.answers later shard after → IsOnTheWay image tenant ticket.session tape later start after
    moves_on later m = one_more image tenant ticket.session tape a.log.answers later start shard after ticket.index _ a.restarts w.tried.on.moved w.tried.on.session w.way m all_beside

    pub goes_on : IsServed schema image ticket work tenant a shard b after Waits → MovesSo image tenant ticket.session a.log.answers b.log.answers shard after → IsLastOnTheWay b after
    goes_on h m = record { tried = h.0; last = h.1 ∙ w.last; current = h.2 w.current; way = moves_on b.log.answers m }

    pub never_again : IsServed schema image ticket work tenant a shard b after Restarted → ⊥
    never_again h = not_three a.restarts h.0 w.last where
      not_three : (n : ℕ) → n < 3 → n ≡ 3 → ⊥
      not_three n lt e = omega (arith, lt, e)

    pub finishes : IsServed schema image ticket work tenant a shard b after Closed → MovesSo image tenant ticket.session a.log.answers [] shard after → FinishesSo image tenant ticket.session tape start after
    finishes h m = is_over image tenant ticket.session tape start after (ticket.index + 1) h (moves_on [] m)

  pub begins : (a : Attempt) → IsTried schema image ticket work tenant a start → a.restarts ≡ 3 → IsCurrent (rows_in tenant start.rows) a.log → tape ≡ a.log.answers → IsLastOnTheWay a start
  begins a tried last current e = record {
    tried = tried;
    last = last;
    current = current;
    way = subst (λ t. IsOnTheWay image tenant ticket.session tape t start start) e (first_way image tenant ticket.session tape start (first tenant ticket.session start));
  }
