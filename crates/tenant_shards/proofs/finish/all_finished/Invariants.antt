use Rattle.tenant_shards.proofs.Left.{StandsAt}
use Rattle.tenant_shards.proofs.finish.all_finished.Given as goal

abbrev pub invariant-order : goal.invariant-order
invariant-order l = StandsAt l.fn.tenants.entries l.tenants.entries l.fn.trails.entries l.trails.entries l.order l.i l.all
