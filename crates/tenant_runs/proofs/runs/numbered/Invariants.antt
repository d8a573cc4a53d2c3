use Rattle.std.proofs.Common.{◌≡◌, ◌++◌, drop, length}
use Rattle.tenant_runs.specs.Steps.{numbered}
use Rattle.tenant_runs.proofs.runs.numbered.Given as goal

abbrev pub invariant-tenants : goal.invariant-tenants
invariant-tenants l =
    (numbered 0 l.fn.parts ≡ l.all.items ++ numbered l.t (drop l.t l.parts.items))
    × (length l.parts.items ≡ length l.fn.parts)
