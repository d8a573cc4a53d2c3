use Rattle.session_turns.proofs.Between.{on_ok}
use Rattle.session_turns.proofs.Frames.{restarts}
use Rattle.session_turns.proofs.Logs.{never_stale}
use Rattle.record_store.specs.Heaps.{rows_in}
use Rattle.session_turns.proofs.calls.begin_again.Goals as goal

pub restart-requires : goal.restart-requires
restart-requires c = record {
  has = c.requires.again.has;
  stale = c.requires.stale;
  seen = c.requires.again.seen;
  few = c.requires.again.few (never_stale (rows_in c.args.tenant c.args.shard.now.rows) c.args.log.now c.args.k c.requires.stale);
}

pub returns-clause-again : goal.returns-clause-again
returns-clause-again c = on_ok _ c.restart.result (λ h. (c.args.k, c.requires.stale, h)) c.restart.ensures.restarts

pub returns-clause-beside : goal.returns-clause-beside
returns-clause-beside c = on_ok _ c.restart.result (restarts c.args.tenant c.args.session c.args.shard.now c.restart.new.self c.requires.again.has.is _ c.restart.ensures.keeps) c.restart.ensures.restarts
