use Rattle.std.proofs.Common.{[], subst}
use Rattle.std.specs.Prelude.{MatchResult}
use Rattle.tenant_shards.specs.Shards.{GrabsSo, Stays, run_of}
use Rattle.tenant_shards.proofs.Asked.{as_long}
use Rattle.tenant_shards.proofs.shard.Shard.grab.Goals as goal

pub compare-requires : goal.compare-requires
compare-requires c = as_long (run_of c.requires.log_is.has) [] c.args.log.now.asked c.args.log.now.answers c.requires.log_is.asks

pub returns-in-Some-first_held-clause-grabbed : goal.returns-in-Some-first_held-clause-grabbed
returns-in-Some-first_held-clause-grabbed c =
    subst (λ x. MatchResult c.refuse.result (GrabsSo c.args.tenant c.args.session c.args.log.now c.args.ids.now x c.refuse.new.self) (λ _. Stays c.args.tenant x c.refuse.new.self)) c.compare.ensures.same c.refuse.ensures.grabbed

pub returns-in-None-clause-grabbed : goal.returns-in-None-clause-grabbed
returns-in-None-clause-grabbed c =
    subst (λ x. MatchResult c.grant.result (GrabsSo c.args.tenant c.args.session c.args.log.now c.args.ids.now x c.grant.new.self) (λ _. Stays c.args.tenant x c.grant.new.self)) c.compare.ensures.same c.grant.ensures.grabbed
