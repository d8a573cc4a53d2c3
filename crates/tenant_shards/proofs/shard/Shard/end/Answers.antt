use Rattle.std.proofs.Common.{[], subst}
use Rattle.std.specs.Prelude.{MatchResult}
use Rattle.tenant_shards.specs.Shards.{EndsSo, Stays, run_of}
use Rattle.tenant_shards.proofs.Asked.{as_long}
use Rattle.tenant_shards.proofs.shard.Shard.end.Goals as goal

pub compare-requires : goal.compare-requires
compare-requires c = as_long (run_of c.requires.log_is.has) [] c.args.log.now.asked c.args.log.now.answers c.requires.log_is.asks

pub returns-clause-ended : goal.returns-clause-ended
returns-clause-ended c =
    subst (λ x. MatchResult c.close.result (EndsSo c.args.tenant c.args.session c.args.log.now c.args.reply c.args.writes x c.close.new.self) (λ _. Stays c.args.tenant x c.close.new.self)) c.compare.ensures.same c.close.ensures.ended
