use Rattle.std.proofs.Common.{refl, sym, ap, subst, ◌∙◌}
use Rattle.apex_requests.specs.declared.reply.EventKind.TheVariants.{End}
use Rattle.record_store.specs.Heaps.{rows_in}
use Rattle.row_locks.specs.Locks.{holder_of}
use Rattle.row_meaning.specs.Stores.{taken}
use Rattle.legal_trails.specs.Legal.{some_writes}
use Rattle.tenant_shards.specs.declared.change.Change.TheVariants.{Closes}
use Rattle.tenant_shards.specs.Changes.{changed}
use Rattle.tenant_shards.specs.Logs.{IsCurrent}
use Rattle.tenant_shards.specs.Shards.{Happens, MayEnd, freed}
use Rattle.tenant_shards.specs.Tenants.{sessions_at}
use Rattle.tenant_shards.proofs.Legality.{ended, kept_else, sound_still}
use Rattle.tenant_shards.proofs.Tenants.{same_all}
use Rattle.tenant_shards.proofs.shard.Shard.close.Goals as goal

pub invariant_of-self : goal.invariant_of-self
invariant_of-self c = sound_still _ _ refl (λ n. refl) c.reserve.ensures.rows (λ n id. refl) refl c.self.invariant

pub invariant_of-self-in_err-happen : goal.invariant_of-self-in_err-happen
invariant_of-self-in_err-happen c = sound_still _ _ refl (same_all c.args.tenant _ _ c.in_err-happen.ensures.err c.happen.ensures.others) c.reserve.ensures.rows (λ n id. refl) c.in_err-happen.ensures.none c.self.invariant

pub invariant_of-self-2 : goal.invariant_of-self-2
invariant_of-self-2 c =
    ended c.args.tenant c.args.session _ _ c.args.log.now c.args.reply c.args.writes (subst (λ x. MayEnd x c.args.tenant c.args.session c.args.log.now c.args.reply c.args.writes) (sym c.self.view_is) c.requires.may)
    (subst (λ x. IsCurrent (rows_in c.args.tenant x.rows) c.args.log.now) (sym c.self.view_is) c.requires.current)
    (record { entries = c.in_ok-happen.ensures.entry; sessions = λ at is. c.in_ok-happen.ensures.ok at is ∙ ap (λ b. changed (Closes b) c.args.session (sessions_at c.args.tenant c.self.inside.tenants.entries) at) c.has_writes-wrote.ensures; rows = c.apply.ensures.own ∙ ap (λ r. taken c.args.writes r) (c.reserve.ensures.rows c.args.tenant); held = c.free.ensures.own })
    (kept_else c.args.tenant c.args.session _ _ _ c.in_ok-happen.ensures.entry c.happen.ensures.part refl c.happen.ensures.others (λ other n. c.apply.ensures.others other n ∙ c.reserve.ensures.rows other) c.free.ensures.others) c.self.invariant

pub returns-clause-ended : goal.returns-clause-ended
returns-clause-ended c = (
  c.requires.current,
  subst (λ x. Happens c.args.tenant c.args.session (End c.args.reply) (Closes (some_writes c.args.writes)) (taken c.args.writes (rows_in c.args.tenant x.rows)) (freed c.args.session (holder_of c.args.tenant x.locks)) x (record { order = c.self.inside.order.items; tenants = c.happen.new.tenants.entries; rows = c.apply.new.self.tenants; locks = c.free.new.self.locks; entries = c.happen.new.entries.items })) c.self.view_is
      (record { entries = c.in_ok-happen.ensures.entry; sessions = λ at is. c.in_ok-happen.ensures.ok at is ∙ ap (λ b. changed (Closes b) c.args.session (sessions_at c.args.tenant c.self.inside.tenants.entries) at) c.has_writes-wrote.ensures; rows = c.apply.ensures.own ∙ ap (λ r. taken c.args.writes r) (c.reserve.ensures.rows c.args.tenant); held = c.free.ensures.own }),
)
