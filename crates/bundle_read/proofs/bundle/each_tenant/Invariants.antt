use Rattle.std.proofs.Common.{◌≡◌, [], drop}
use Rattle.serde_json.specs.View.{items_view}
use Rattle.bundle_read.specs.Bundles.{each_tenant}
use Rattle.bundle_read.proofs.Items.{prefixed}
use Rattle.bundle_read.proofs.bundle.each_tenant.Given as goal

abbrev pub invariant-tenants : goal.invariant-tenants
invariant-tenants l = prefixed l.all (each_tenant l.taken.list.items l.i (items_view (drop l.i l.list))) ≡ each_tenant [] 0 (items_view l.list)
