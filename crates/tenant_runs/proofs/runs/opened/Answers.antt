use Rattle.std.proofs.Common.{subst, sym}
use Rattle.tenant_shards.specs.Shards.{numbers}
use Rattle.tenant_shards.specs.Tenants.{Differ}
use Rattle.tenant_runs.proofs.Plans.{differ}
use Rattle.tenant_runs.proofs.runs.opened.Goals as goal

pub open-requires : goal.open-requires
open-requires c = subst (λ ps. Differ (numbers ps)) (sym c.in_ok-all.ensures) (differ 0 c.args.parts)
