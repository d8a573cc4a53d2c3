use Rattle.std.proofs.Common.{◌≡◌, take}
use Rattle.record_store.specs.Heaps.{rows_in}
use Rattle.tenant_shards.specs.Logs.{AreCurrent}
use Rattle.tenant_shards.proofs.stale.first_stale.Given as goal

abbrev pub invariant-asked : goal.invariant-asked
invariant-asked l = AreCurrent (rows_in l.tenant l.fn.store.tenants) (take l.k l.asked) (take l.k l.answers) × (l.store.tenants ≡ l.fn.store.tenants)
