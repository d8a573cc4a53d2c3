use Rattle.std.proofs.Common.{refl, sym, subst}
use Rattle.record_store.specs.Heaps.{rows_in}
use Rattle.row_locks.specs.Holders.{FirstHeld}
use Rattle.row_locks.specs.Locks.{holder_of}
use Rattle.tenant_shards.specs.Logs.{IsCurrent}
use Rattle.tenant_shards.specs.Shards.{MayGrab}
use Rattle.tenant_shards.proofs.Legality.{kept_else, refused, sound_still}
use Rattle.tenant_shards.proofs.Tenants.{same_all}
use Rattle.tenant_shards.proofs.shard.Shard.refuse.Goals as goal

pub invariant_of-self : goal.invariant_of-self
invariant_of-self c = sound_still _ _ refl (same_all c.args.tenant _ _ c.in_err-happen.ensures.err c.happen.ensures.others) (λ n. refl) (λ n id. refl) c.in_err-happen.ensures.none c.self.invariant

pub invariant_of-self-2 : goal.invariant_of-self-2
invariant_of-self-2 c =
    refused c.args.tenant c.args.session _ _ c.args.log.now c.args.ids.now (subst (λ x. MayGrab x c.args.tenant c.args.session c.args.log.now c.args.ids.now) (sym c.self.view_is) c.requires.may) c.args.first.0 c.args.first.1
    (subst (λ x. IsCurrent (rows_in c.args.tenant x.rows) c.args.log.now) (sym c.self.view_is) c.requires.current)
    (subst (λ x. FirstHeld (holder_of c.args.tenant x.locks) c.args.session c.args.ids.now c.args.first.0 c.args.first.1) (sym c.self.view_is) c.requires.first)
    (record { entries = c.in_ok-happen.ensures.entry; sessions = c.in_ok-happen.ensures.ok; rows = refl; held = c.free.ensures.own })
    (kept_else c.args.tenant c.args.session _ _ _ c.in_ok-happen.ensures.entry c.happen.ensures.part refl c.happen.ensures.others (λ other n. refl) c.free.ensures.others) c.self.invariant
