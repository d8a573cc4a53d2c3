use Rattle.std.proofs.Common.{sym, subst, []}
use Rattle.tenant_shards.specs.Shards.{IsSound}
use Rattle.tenant_shards.proofs.Coming.{empty_by, is_empty, next, opening, sound}
use Rattle.tenant_shards.proofs.shard.Shard.open.Goals as goal

pub come_in-requires : goal.come_in-requires
come_in-requires c =
    is_empty c.args.parts.items c.parts.tenant-iterator.rest.items c.next.new.self.rest.items (c.in-Some.tenant, c.in-Some.part) (opening c.parts.order.items c.parts.tenants.entries c.parts.store.tenants) c.requires c.in-Some.ensures.steps.0 c.parts.invariant.2

pub parts-preserved : goal.parts-preserved
parts-preserved c = (
  tt,
  tt,
  next c.args.parts.items c.parts.tenant-iterator.rest.items c.next.new.self.rest.items (c.in-Some.tenant, c.in-Some.part)
      (opening c.parts.order.items c.parts.tenants.entries c.parts.store.tenants) (opening c.push_number.new.order.items c.come_in.new.tenants.entries c.come_in.new.store.tenants)
      c.requires c.in-Some.ensures.steps.0 c.parts.invariant.2 c.in_ok-push_number.ensures c.in_ok-come_in.ensures.kept c.in_ok-come_in.ensures.rows c.in_ok-come_in.ensures.others c.in_ok-come_in.ensures.other_rows,
)

pub invariant_of-result : goal.invariant_of-result
invariant_of-result c =
    subst (λ locks. IsSound (record { order = c.parts.order.items; tenants = c.parts.tenants.entries; rows = c.parts.store.tenants; locks = locks; entries = c.new-2.result.items })) (sym c.new.ensures)
    (subst (λ entries. IsSound (record { order = c.parts.order.items; tenants = c.parts.tenants.entries; rows = c.parts.store.tenants; locks = []; entries = entries })) (sym c.new-2.ensures.items)
    (sound c.args.parts.items c.parts.tenant-iterator.rest.items c.parts.order.items c.parts.tenants.entries c.parts.store.tenants c.requires (empty_by c.parts.tenant-iterator.rest.items c.parts.tenant-iterator.rest.len c.parts.tenant-iterator.rest.ok.0 c.in-None.ensures.steps.0) c.parts.invariant.2))
