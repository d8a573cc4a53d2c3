use Rattle.std.proofs.Common.{◌≡◌, ◌≤◌, ◌+◌, ℕ, List, cond, length, Some, take}
use Rattle.std.specs.HashMap.{spare}
use Rattle.row_meaning.specs.Stores.{has_id}
use Rattle.row_locks.specs.Locks.{holder_of}
use Rattle.row_locks.proofs.locks.Locks.grab.Given as goal

abbrev pub invariant-ids : goal.invariant-ids
invariant-ids l =
    ((id : List ℕ) → holder_of l.tenant l.self-inside.holders.entries id ≡ cond (has_id (take l.k l.ids) id) (Some l.session) (holder_of l.tenant l.fn.self.locks id))
    × ((other : ℕ) → (other ≡ l.tenant → ⊥) → (id : List ℕ) → holder_of other l.self-inside.holders.entries id ≡ holder_of other l.fn.self.locks id)
    × (length l.ids ≤ l.k + spare l.self-inside.holders)
