use Rattle.std.proofs.Common.{refl, sym, subst}
use Rattle.tenant_shards.specs.Shards.{MayStart}
use Rattle.tenant_shards.proofs.Legality.{kept_else, sound_still, started}
use Rattle.tenant_shards.proofs.Tenants.{same_all}
use Rattle.tenant_shards.proofs.shard.Shard.start.Goals as goal

pub invariant_of-self : goal.invariant_of-self
invariant_of-self c = sound_still _ _ refl (same_all c.args.tenant _ _ c.in_err-happen.ensures.err c.happen.ensures.others) (λ n. refl) (λ n id. refl) c.in_err-happen.ensures.none c.self.invariant

pub invariant_of-self-2 : goal.invariant_of-self-2
invariant_of-self-2 c =
    started c.args.tenant c.args.session _ _ (subst (λ x. MayStart x c.args.tenant c.args.session) (sym c.self.view_is) c.requires) c.next_in-request.result c.next_in-request.ensures
    (record { entries = c.in_ok-happen.ensures.entry; sessions = c.in_ok-happen.ensures.ok; rows = refl; held = (λ id. refl) })
    (kept_else c.args.tenant c.args.session _ _ _ c.in_ok-happen.ensures.entry c.happen.ensures.part refl c.happen.ensures.others (λ other n. refl) (λ other n id. refl)) c.self.invariant
