use Rattle.std.proofs.Common.{◌≡◌, ℕ, [], ◌∷◌, Some, slice_get, length, All, IfSome}
use Rattle.turn_lock.specs.declared.handles.Pass.{Pass}
use Rattle.turn_lock.specs.Passes.{IsPassOf, numbers}
use Rattle.turn_bench.proofs.work.players_of.Given as goal

abbrev pub invariant-loop-pass : goal.invariant-loop-pass
invariant-loop-pass l =
    ((k : ℕ) (p : Pass _ _) → slice_get l.passes.items k ≡ Some p → IsPassOf l.lock p × (numbers p ≡ k ∷ []))
    × All (λ w. IfSome w.pass (λ p. IsPassOf w.lock.now p × (numbers p ≡ w.n ∷ []))) l.players.items

abbrev pub decreases-loop-pass : goal.decreases-loop-pass
decreases-loop-pass l = length l.passes.items
