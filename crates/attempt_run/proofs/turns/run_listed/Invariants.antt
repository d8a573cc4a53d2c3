use Rattle.std.proofs.Common.{drop, map}
use Rattle.attempt_run.specs.Picks.{HasPassed, pick_of}
use Rattle.attempt_run.specs.Stages.{SameParts}
use Rattle.attempt_run.proofs.Serving.{IsListed}
use Rattle.attempt_run.proofs.turns.run_listed.Given as goal

abbrev pub invariant-listed : goal.invariant-listed
invariant-listed l =
    IsListed l.plans (map pick_of l.turns) (map pick_of (drop l.listed-index l.turns)) l.fn.all.items l.fn.shard l.all.items l.shard
    × HasPassed l.plans l.all.items l.cursor
    × SameParts l.fn.shard l.shard
