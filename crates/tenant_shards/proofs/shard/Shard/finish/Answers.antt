use Rattle.std.proofs.Common.{subst}
use Rattle.std.specs.Prelude.{IfOk}
use Rattle.tenant_shards.specs.Finishes.{AreFinished, AreLeft}
use Rattle.tenant_shards.proofs.Left.{all_finished}
use Rattle.tenant_shards.proofs.shard.Shard.finish.Goals as goal

pub returns : goal.returns
returns c =
    subst (λ x. IfOk c.all_finished.result (AreFinished x x.order)) c.self.view_is
    (all_finished c.all_finished.result _ c.in_ok-trails.trails.entries c.self.invariant c.in_ok-trails.ensures c.self.inside.order.items
    (subst (λ ns. IfOk c.all_finished.result (AreLeft c.self.inside.tenants.entries c.in_ok-trails.trails.entries ns)) c.deref.ensures.value c.all_finished.ensures))
