use Rattle.attempt_run.specs.Picks.{NoneBelow, unfinished_of}
use Rattle.attempt_run.proofs.picks.first_of.Given as goal

abbrev pub invariant-sessions : goal.invariant-sessions
invariant-sessions l = NoneBelow l.s (unfinished_of l.sessions l.standings)
