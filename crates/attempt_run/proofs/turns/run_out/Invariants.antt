use Rattle.attempt_run.specs.Picks.{HasPassed}
use Rattle.attempt_run.specs.Stages.{SameParts}
use Rattle.attempt_run.proofs.Serving.{IsOnTheWay}
use Rattle.attempt_run.proofs.turns.run_out.Given as goal

abbrev pub invariant-turns : goal.invariant-turns
invariant-turns l =
    IsOnTheWay l.plans l.fn.all.items l.fn.shard l.all.items l.shard
    × HasPassed l.plans l.all.items l.cursor
    × SameParts l.fn.shard l.shard
