use Rattle.std.proofs.Common.{◌≡◌, ℕ, [], ◌∷◌, length, Some, slice_get}
use Rattle.turn_lock.specs.declared.handles.Pass.{Pass}
use Rattle.turn_lock.specs.Turns.{first_view}
use Rattle.turn_lock.specs.Passes.{IsPassOf, opened_with, numbers, seen}
use Rattle.turn_lock.proofs.handles.TurnLock.deal.Given as goal

abbrev pub invariant-loop-k : goal.invariant-loop-k
invariant-loop-k g l =
    (l.first.seat.table_id ≡ l.self.table.shared.table_id) × (l.first.seat.me ≡ (first_view l.fn.passes (opened_with l.self), [])) × (length l.all.items ≡ l.k)
    × ((k : ℕ) (pass : Pass g.row.T.Denot g.row.T-Entry.Denot) → slice_get l.all.items k ≡ Some pass → IsPassOf l.self pass × (numbers pass ≡ k ∷ []) × (seen pass ≡ []))
