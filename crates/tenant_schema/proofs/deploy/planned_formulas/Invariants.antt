use Rattle.std.proofs.Common.{map, take}
use Rattle.tenant_schema.proofs.Steps.{HaveOnlyOf}
use Rattle.tenant_schema.proofs.deploy.planned_formulas.Given as goal

abbrev pub invariant-objects : goal.invariant-objects
invariant-objects l = HaveOnlyOf l.plan (take l.i l.plan.objects) (map (λ list. list.items) l.all)
