use Rattle.std.proofs.Common.{◌≡◌, []}
use Rattle.std.specs.Prelude.{replicate}
use Rattle.tenant_runs.proofs.runs.empty.Given as goal

abbrev pub invariant-tenants : goal.invariant-tenants
invariant-tenants l = l.trails ≡ replicate l.counter []
