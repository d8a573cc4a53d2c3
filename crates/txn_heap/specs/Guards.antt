-- What guards the records, lists and maps of triggers (docs/platform.md, "Triggers").
use Rattle.std.specs.Prelude.{ℕ, zero, suc, Bool, true, false, nat_eq, not, List, slice_get, Option, None, Some}
use Rattle.txn_heap.specs.Changes.{changed}
use Rattle.txn_heap.specs.declared.thing.Guard.{Guard}
use Rattle.txn_heap.specs.declared.thing.Guard.TheVariants.{Fixed, Watched, Open}
use Rattle.txn_heap.specs.declared.thing.Thing.{Thing}
use Rattle.txn_heap.specs.declared.thing.Thing.TheVariants as T

-- a thing is guarded by what stands right before it, where that is a guard
abbrev pub guard_in : Option Thing → Option Guard
guard_in (Some (T.Guard g)) = Some g
guard_in _ = None

abbrev pub guard_of : List Thing → ℕ → Option Guard
guard_of heap zero = None
guard_of heap (suc p) = guard_in (slice_get heap p)

-- a cell of the record may be set
abbrev pub takes_cell : Option Guard → ℕ → Bool
takes_cell None field = true
takes_cell (Some (Open error)) field = not (nat_eq field 0)
takes_cell (Some g) field = false

-- an error may be added to the record
abbrev pub takes_error : Option Guard → Bool
takes_error (Some (Watched error)) = true
takes_error (Some (Open error)) = true
takes_error _ = false

-- the list or the map may be changed
abbrev pub takes_change : Option Guard → Bool
takes_change None = true
takes_change (Some g) = false

-- the message of the first error stays
abbrev pub first_error : Option (List ℕ) → List ℕ → Option (List ℕ)
first_error None message = Some message
first_error (Some first) message = Some first

abbrev pub guard_with : List ℕ → Guard → Guard
guard_with message Fixed = Fixed
guard_with message (Watched error) = Watched (first_error error message)
guard_with message (Open error) = Open (first_error error message)

abbrev pub thing_with : List ℕ → Thing → Thing
thing_with message (T.Guard g) = T.Guard (guard_with message g)
thing_with message thing = thing

-- the things, where an error was added to the record at a place
abbrev pub with_error : ℕ → List ℕ → List Thing → List Thing
with_error zero message heap = heap
with_error (suc p) message heap = changed p (thing_with message) heap

abbrev pub error_of : Option Guard → Option (List ℕ)
error_of (Some (Watched error)) = error
error_of (Some (Open error)) = error
error_of _ = None
