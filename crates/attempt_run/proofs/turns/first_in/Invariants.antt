use Rattle.std.proofs.Common.{◌≡◌}
use Rattle.std.specs.Prelude.{replicate}
use Rattle.attempt_run.specs.Stages.{first_standing}
use Rattle.attempt_run.proofs.turns.first_in.Given as goal

abbrev pub invariant-sessions : goal.invariant-sessions
invariant-sessions l = l.standings ≡ replicate l.counter first_standing
