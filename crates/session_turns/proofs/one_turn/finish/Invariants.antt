use Rattle.session_turns.proofs.Finishing.{IsLastOnTheWay}
use Rattle.session_turns.proofs.one_turn.finish.Given as goal

abbrev pub invariant-pauses : goal.invariant-pauses
invariant-pauses l = IsLastOnTheWay l.schema l.image l.ticket l.work l.tenant l.fn.attempt.log.answers l.fn.shard l.attempt l.shard
