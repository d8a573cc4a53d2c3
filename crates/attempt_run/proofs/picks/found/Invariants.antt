use Rattle.attempt_run.specs.Picks.{HasPassed}
use Rattle.attempt_run.proofs.picks.found.Given as goal

abbrev pub invariant-tenants : goal.invariant-tenants
invariant-tenants l = HasPassed l.plans l.all (record { tenant = l.tenant; session = l.from })
