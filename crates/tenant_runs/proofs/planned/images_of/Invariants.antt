use Rattle.std.proofs.Common.{◌≡◌, ◌++◌, drop, length}
use Rattle.tenant_runs.specs.Steps.{images_in}
use Rattle.tenant_runs.proofs.planned.images_of.Given as goal

abbrev pub invariant-plans : goal.invariant-plans
invariant-plans l = (images_in l.fn.plans.items ≡ l.images ++ images_in (drop l.t l.plans.items)) × (length l.plans.items ≡ length l.fn.plans.items)
