use Rattle.std.proofs.Common.{sym, ap, ◌∙◌}
use Rattle.std.specs.BTreeMap.{is_at}
use Rattle.std.specs.Map.{lookup}
use Rattle.std.specs.Ordering.{nat_cmp}
use Rattle.tenant_shards.proofs.Left.{comes_in, is_none, same_tenant}
use Rattle.tenant_shards.proofs.finish.meet.Goals as goal

pub returns-in-Ok-clause-same : goal.returns-in-Ok-clause-same
returns-in-Ok-clause-same c =
    λ q. comes_in c.args.tenant q c.new.result _ _ _ c.new.ensures (c.in-Ok.ensures.updates.0 q) (is_none _ (sym c.contains_key.ensures ∙ c.if-contains_key.false))
    (λ at. ap (λ k. lookup (is_at (nat_cmp k)) c.args.trails.now.entries) (sym (same_tenant c.args.tenant q at)))
