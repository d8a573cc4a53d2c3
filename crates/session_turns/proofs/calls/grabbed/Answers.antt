use Rattle.std.proofs.Common.{subst}
use Rattle.tenant_shards.specs.Shards.{GrabsSo}
use Rattle.session_turns.proofs.Between.{again_from, again_still, beside_still, map_ok, stale_still}
use Rattle.session_turns.proofs.Frames.{grants, refuses, then}
use Rattle.session_turns.proofs.calls.grabbed.Goals as goal

pub begin_again-requires-clause-stale : goal.begin_again-requires-clause-stale
begin_again-requires-clause-stale c =
    let h = subst (λ e. GrabsSo c.args.tenant c.args.session c.args.log.now c.args.ids.now c.args.shard.now c.grab.new.self e) c.in-Stale.is c.in_ok-grab.ensures.grabbed in
    stale_still c.args.tenant c.args.session c.args.log.now c.args.shard.now c.grab.new.self c.grab.ensures.keeps h.1 c.in-Stale.k h.0

pub begin_again-requires-clause-again : goal.begin_again-requires-clause-again
begin_again-requires-clause-again c =
    let h = subst (λ e. GrabsSo c.args.tenant c.args.session c.args.log.now c.args.ids.now c.args.shard.now c.grab.new.self e) c.in-Stale.is c.in_ok-grab.ensures.grabbed in
    again_still c.args.tenant c.args.session c.args.log.now c.args.shard.now c.grab.new.self c.grab.ensures.keeps h.1 c.requires.again

pub returns-in-Granted-clause-beside : goal.returns-in-Granted-clause-beside
returns-in-Granted-clause-beside c =
    let h = subst (λ e. GrabsSo c.args.tenant c.args.session c.args.log.now c.args.ids.now c.args.shard.now c.grab.new.self e) c.in-Granted.is c.in_ok-grab.ensures.grabbed in
    grants c.args.tenant c.args.session c.args.shard.now c.grab.new.self c.requires.may.log_is.has.is _ c.grab.ensures.keeps c.args.ids.now h.1 h.2

pub returns-in-Held-clause-beside : goal.returns-in-Held-clause-beside
returns-in-Held-clause-beside c =
    let h = subst (λ e. GrabsSo c.args.tenant c.args.session c.args.log.now c.args.ids.now c.args.shard.now c.grab.new.self e) c.in-Held.is c.in_ok-grab.ensures.grabbed in
    refuses c.args.tenant c.args.session c.args.shard.now c.grab.new.self c.requires.may.log_is.has.is _ c.grab.ensures.keeps h.2
