use Rattle.std.proofs.Common.{◌≡◌, map, take}
use Rattle.attempt_run.specs.Stages.{first_in}
use Rattle.attempt_run.proofs.turns.first_standings.Given as goal

abbrev pub invariant-plans : goal.invariant-plans
invariant-plans l = l.all.items ≡ map first_in (take l.plan-index l.plans)
