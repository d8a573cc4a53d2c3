use Rattle.std.proofs.Common.{subst, sym}
use Rattle.attempt_run.specs.Plans.{ArePlans}
use Rattle.tenant_runs.specs.Steps.{ArePlanned}
use Rattle.tenant_runs.proofs.Plans.{are_plans}
use Rattle.tenant_runs.proofs.runs.run_tenants.Goals as goal

pub trails_of-requires-clause-plans : goal.trails_of-requires-clause-plans
trails_of-requires-clause-plans c =
    subst ArePlans (sym c.deref.ensures.value) (are_plans c.args.parts c.in_ok-plans.plans.items (subst (λ ps. ArePlanned ps c.in_ok-plans.plans.items) c.as_slice.ensures c.in_ok-plans.ensures) c.requires)

pub trails_of-requires-clause-planned : goal.trails_of-requires-clause-planned
trails_of-requires-clause-planned c =
    subst (λ plans. ArePlanned c.args.parts plans) (sym c.deref.ensures.value) (subst (λ ps. ArePlanned ps c.in_ok-plans.plans.items) c.as_slice.ensures c.in_ok-plans.ensures)
