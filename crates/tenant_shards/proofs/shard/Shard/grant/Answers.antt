use Rattle.std.proofs.Common.{refl, sym, ap, subst, ◌∙◌, cond, Some}
use Rattle.record_store.specs.Heaps.{rows_in}
use Rattle.row_locks.specs.Holders.{NoneHeld}
use Rattle.row_locks.specs.Locks.{holder_of}
use Rattle.row_meaning.specs.Stores.{has_id}
use Rattle.tenant_shards.specs.Logs.{IsCurrent}
use Rattle.tenant_shards.specs.Shards.{MayGrab}
use Rattle.tenant_shards.proofs.Legality.{granted, kept_else, sound_still}
use Rattle.tenant_shards.proofs.Tenants.{same_all}
use Rattle.tenant_shards.proofs.shard.Shard.grant.Goals as goal

pub invariant_of-self : goal.invariant_of-self
invariant_of-self c = sound_still _ _ refl (λ n. refl) (λ n. refl) c.reserve.ensures.same refl c.self.invariant

pub invariant_of-self-in_err-happen : goal.invariant_of-self-in_err-happen
invariant_of-self-in_err-happen c = sound_still _ _ refl (same_all c.args.tenant _ _ c.in_err-happen.ensures.err c.happen.ensures.others) (λ n. refl) c.reserve.ensures.same c.in_err-happen.ensures.none c.self.invariant

pub invariant_of-self-2 : goal.invariant_of-self-2
invariant_of-self-2 c =
    granted c.args.tenant c.args.session _ _ c.args.log.now c.args.ids.now (subst (λ x. MayGrab x c.args.tenant c.args.session c.args.log.now c.args.ids.now) (sym c.self.view_is) c.requires.may)
    (subst (λ x. IsCurrent (rows_in c.args.tenant x.rows) c.args.log.now) (sym c.self.view_is) c.requires.current)
    (subst (λ x. NoneHeld (holder_of c.args.tenant x.locks) c.args.session c.args.ids.now) (sym c.self.view_is) c.requires.none)
    (record { entries = c.in_ok-happen.ensures.entry; sessions = c.in_ok-happen.ensures.ok; rows = refl; held = λ id. c.grab.ensures.own id ∙ ap (λ o. cond (has_id c.args.ids.now id) (Some c.args.session) o) (c.reserve.ensures.same c.args.tenant id) })
    (kept_else c.args.tenant c.args.session _ _ _ c.in_ok-happen.ensures.entry c.happen.ensures.part refl c.happen.ensures.others (λ other n. refl) (λ other n id. c.grab.ensures.others other n id ∙ c.reserve.ensures.same other id)) c.self.invariant
