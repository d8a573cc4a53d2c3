use Rattle.std.proofs.Common.{subst}
use Rattle.tenant_shards.specs.Shards.{EndsSo}
use Rattle.session_turns.proofs.Between.{again_from, again_still, beside_still, map_ok, stale_still}
use Rattle.session_turns.proofs.Frames.{ends, then}
use Rattle.session_turns.proofs.calls.end.Goals as goal

pub begin_again-requires-clause-stale : goal.begin_again-requires-clause-stale
begin_again-requires-clause-stale c =
    let h = subst (λ e. EndsSo c.args.tenant c.args.session c.args.log.now c.args.reply c.args.writes c.args.shard.now c.end.new.self e) c.in-Stale.is c.in_ok-end.ensures.ended in
    stale_still c.args.tenant c.args.session c.args.log.now c.args.shard.now c.end.new.self c.end.ensures.keeps h.1 c.in-Stale.k h.0

pub begin_again-requires-clause-again : goal.begin_again-requires-clause-again
begin_again-requires-clause-again c =
    let h = subst (λ e. EndsSo c.args.tenant c.args.session c.args.log.now c.args.reply c.args.writes c.args.shard.now c.end.new.self e) c.in-Stale.is c.in_ok-end.ensures.ended in
    again_still c.args.tenant c.args.session c.args.log.now c.args.shard.now c.end.new.self c.end.ensures.keeps h.1 c.requires.again

pub returns-in-Closed-clause-beside : goal.returns-in-Closed-clause-beside
returns-in-Closed-clause-beside c =
    let h = subst (λ e. EndsSo c.args.tenant c.args.session c.args.log.now c.args.reply c.args.writes c.args.shard.now c.end.new.self e) c.in-Closed.is c.in_ok-end.ensures.ended in
    ends c.args.tenant c.args.session c.args.shard.now c.end.new.self c.requires.may.log_is.has.is _ c.end.ensures.keeps c.args.writes h.1
