use Rattle.std.proofs.Common.{subst}
use Rattle.tenant_runs.specs.Steps.{IsPlannedBy}
use Rattle.tenant_runs.proofs.Plans.{planned_next}
use Rattle.tenant_runs.proofs.planned.plans_of.Goals as goal

pub parts-preserved : goal.parts-preserved
parts-preserved c =
    planned_next c.args.parts.now c.parts.part-index c.part-item.result c.parts.plans.items c.push.new.self.items c.in_ok-planned.field-0 c.parts-test.true c.parts.invariant
    (subst (λ p. IsPlannedBy p c.in_ok-planned.field-0) c.part-item.is c.in_ok-planned.ensures) c.in_ok-push.ensures.items
