use Rattle.tenant_shards.proofs.Coming.{Stands, opening}
use Rattle.tenant_shards.proofs.shard.Shard.open.Given as goal

abbrev pub invariant-parts : goal.invariant-parts
invariant-parts l = (goal.iterator-parts).can_next l.tenant-iterator × (goal.iterator-parts).is_finite l.tenant-iterator × Stands l.fn.parts.items l.tenant-iterator.rest.items (opening l.order.items l.tenants.entries l.store.tenants)
