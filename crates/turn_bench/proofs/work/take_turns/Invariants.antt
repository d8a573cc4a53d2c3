use Rattle.std.proofs.Common.{◌≡◌, [], ◌∷◌}
use Rattle.turn_lock.specs.Passes.{IsPassOf, numbers}
use Rattle.turn_bench.proofs.work.take_turns.Given as goal

abbrev pub invariant-loop-turn : goal.invariant-loop-turn
invariant-loop-turn g l = IsPassOf l.lock l.pass × (numbers l.pass ≡ l.worker ∷ [])
