use Rattle.std.proofs.Common.{refl, sym, subst}
use Rattle.tenant_shards.specs.Shards.{MayRestart}
use Rattle.tenant_shards.proofs.Legality.{kept_else, restarted, sound_still}
use Rattle.tenant_shards.proofs.Tenants.{same_all}
use Rattle.tenant_shards.proofs.shard.Shard.restart.Goals as goal

pub invariant_of-self : goal.invariant_of-self
invariant_of-self c = sound_still _ _ refl (same_all c.args.tenant _ _ c.in_err-happen.ensures.err c.happen.ensures.others) (λ n. refl) (λ n id. refl) c.in_err-happen.ensures.none c.self.invariant

pub invariant_of-self-2 : goal.invariant_of-self-2
invariant_of-self-2 c =
    restarted c.args.tenant c.args.session _ _ c.args.log.now c.args.k (subst (λ x. MayRestart x c.args.tenant c.args.session c.args.log.now c.args.k) (sym c.self.view_is) c.requires)
    (record { entries = c.in_ok-happen.ensures.entry; sessions = c.in_ok-happen.ensures.ok; rows = refl; held = c.free.ensures.own })
    (kept_else c.args.tenant c.args.session _ _ _ c.in_ok-happen.ensures.entry c.happen.ensures.part refl c.happen.ensures.others (λ other n. refl) c.free.ensures.others) c.self.invariant
