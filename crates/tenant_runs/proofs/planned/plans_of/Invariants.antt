use Rattle.std.proofs.Common.{take}
use Rattle.tenant_runs.specs.Steps.{ArePlanned}
use Rattle.tenant_runs.proofs.planned.plans_of.Given as goal

abbrev pub invariant-parts : goal.invariant-parts
invariant-parts l = ArePlanned (take l.part-index l.parts) l.plans.items
