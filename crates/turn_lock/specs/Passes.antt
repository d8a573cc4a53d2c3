-- What the calls of the turn lock say of passes and turns.
use Rattle.std.specs.Prelude.{◌≡◌, ℕ, List, [], ◌∷◌, Option, Some, None}
use Rattle.turn_lock.specs.Turns.{IsLiving}
use Rattle.turn_lock.specs.declared.handles.TurnLock.{TurnLock}
use Rattle.turn_lock.specs.declared.handles.Pass.{Pass}
use Rattle.turn_lock.specs.declared.handles.Held.{Held}

abbrev pub entries_of : {E : Type 0} → Option (List E) → List E
entries_of None = []
entries_of (Some log) = log

module _ {T E : Type 0} where
  -- how many passes the lock was opened with, and the value
  abbrev pub passes_of : TurnLock T E → ℕ
  passes_of lock = lock.table.shared.key.passes

  abbrev pub opened_with : TurnLock T E → T
  opened_with lock = lock.table.shared.key.opened.value

  -- the pass is one of this lock
  abbrev pub IsPassOf : TurnLock T E → Pass T E → Type 0
  IsPassOf lock pass = (pass.seat.table_id ≡ lock.table.shared.table_id) × (pass.seat.me.1 ≡ []) × (pass.seat.me.0.turn ≡ None) × IsLiving (passes_of lock) (opened_with lock) pass.seat.me.0

  -- its numbers, and the entries that it has seen
  abbrev pub numbers : Pass T E → List ℕ
  numbers pass = pass.seat.me.0.numbers

  abbrev pub seen : Pass T E → List E
  seen pass = pass.seat.me.0.seen

  -- the numbers of the pass whose turn it is, what that pass had seen, and the entries when the turn began
  abbrev pub held_numbers : Held T E → List ℕ
  held_numbers held = held.seat.me.0.numbers

  abbrev pub held_seen : Held T E → List E
  held_seen held = held.seat.me.0.seen

  abbrev pub began_with : Held T E → List E
  began_with held = entries_of held.seat.me.0.turn

  -- the turn is one of this lock
  abbrev pub IsTurnOf : TurnLock T E → Held T E → Type 0
  IsTurnOf lock held = (held.seat.table_id ≡ lock.table.shared.table_id) × (held.seat.me.1 ≡ (0, None) ∷ []) × (held.seat.me.0.turn ≡ Some (began_with held)) × IsLiving (passes_of lock) (opened_with lock) held.seat.me.0
