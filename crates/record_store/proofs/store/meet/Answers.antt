use Rattle.std.proofs.Common.{sym, ap, ◌∙◌}
use Rattle.std.specs.Ordering.{nat_cmp}
use Rattle.std.specs.Map.{lookup}
use Rattle.std.specs.BTreeMap.{is_at}
use Rattle.record_store.proofs.HeapSteps.{comes_in, same_tenant}
use Rattle.record_store.proofs.Steps.{is_none}
use Rattle.record_store.proofs.store.meet.Goals as goal

pub returns-in-Ok-clause-places : goal.returns-in-Ok-clause-places
returns-in-Ok-clause-places c =
    λ q. comes_in c.args.tenant q c.new.result _ _ _ c.new.ensures (c.in-Ok.ensures.updates.0 q) (is_none _ (sym c.contains_key.ensures ∙ c.if-contains_key.false))
    (λ at. ap (λ k. lookup (is_at (nat_cmp k)) c.args.tenants.now.entries) (sym (same_tenant c.args.tenant q at)))
