use Rattle.std.proofs.Common.{◌≡◌, [], ◌∷◌}
use Rattle.turn_lock.specs.Passes.{IsPassOf, numbers}
use Rattle.turn_lock.proofs.tests.turns.Given as goal

abbrev pub invariant-loop-step : goal.invariant-loop-step
invariant-loop-step g l = IsPassOf l.lock l.pass × (numbers l.pass ≡ l.n ∷ [])
