use Rattle.std.proofs.Common.{sym, ap, ◌∙◌}
use Rattle.serde_json.specs.View.{items_view}
use Rattle.std.proofs.Common.{drop, ◌+◌, ◌++◌, ◌∷◌, []}
use Rattle.bundle_read.specs.Bundles.{each_tenant}
use Rattle.bundle_read.proofs.Items.{prefixed, tenant_more}
use Rattle.bundle_read.proofs.bundle.each_tenant.Goals as goal

pub tenants-preserved : goal.tenants-preserved
tenants-preserved c =
    let list = c.args.list.now in
    let rest = items_view (drop (c.tenants.i + 1) list) in
    ap (λ all. prefixed all (each_tenant c.in_ok-taken-in-Ok.taken.list.items (c.tenants.i + 1) rest)) c.in_ok-push-in-Ok.ensures.ok
    ∙ ap (λ names. prefixed (c.tenants.all ++ c.in-Ok.one ∷ []) (each_tenant names (c.tenants.i + 1) rest)) c.in_ok-taken-in-Ok.ensures
    ∙ sym (tenant_more c.tenants.taken.list.items c.tenants.i list c.index-list-i.result c.in-Ok.one c.tenants.all c.tenants-test.true c.index-list-i.is c.in-Ok.ensures)
    ∙ c.tenants.invariant
