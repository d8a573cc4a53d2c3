-- Laws of the methods of collections (docs/language.md, "Built-in methods").
use Rattle.std.specs.Prelude.{◌≡◌, ◌≢◌, ℕ, ◌+◌, ◌<◌, true, false, not, cond, filter, List, [], ◌∷◌, length, slice_get, None, Some}
use Rattle.std.specs.List.{AllByRecursion, IsDistinct}
use Rattle.apex_num.specs.declared.cell.Cell.{Cell}
use Rattle.builtin_table.specs.declared.method.Builtin.{Builtin}
use Rattle.txn_heap.specs.declared.thing.Thing.{Thing}
use Rattle.txn_heap.specs.declared.thing.Value.{Value}
use Rattle.txn_heap.specs.Equal.{same}
use Rattle.txn_heap.specs.Guards.{guard_of, takes_change}
use Rattle.txn_heap.specs.Words.{has, with_keys, without_key, value_at, with_entry, keys_of}
use Rattle.heap_methods.specs.Methods.{on_thing, outcome, method}
use Rattle.heap_methods.specs.Operands.{as_set}
use Rattle.heap_methods.specs.Order.{less, sorted}
use Rattle.heap_methods.specs.Outcomes.{Answers}

-- a method changes no thing but its own
abbrev pub OnlyItsThing : Type 0
OnlyItsThing = (which : Builtin) (place : ℕ) (args : List Value) (heap after : List Thing) (v : Value) (n : ℕ)
    → method which place args heap ≡ Answers v after → n ≢ place → n < length heap → slice_get after n ≡ slice_get heap n

-- a list or a map that may not be changed is as before after every call that answers
abbrev pub GuardedStays : Type 0
GuardedStays = (which : Builtin) (place : ℕ) (args : List Value) (heap after : List Thing) (v : Value)
    → takes_change (guard_of heap place) ≡ false → as_set (slice_get heap place) ≡ None → place < length heap → method which place args heap ≡ Answers v after → slice_get after place ≡ slice_get heap place

-- where nothing guards a thing, a method does to it what it does
abbrev pub UnguardedIsDone : Type 0
UnguardedIsDone = (which : Builtin) (place : ℕ) (args : List Value) (heap : List Thing)
    → guard_of heap place ≡ None → outcome which place args heap ≡ on_thing which heap (slice_get heap place) args

-- `put` of a key that is there keeps all places
abbrev pub PutKeepsPlaces : Type 0
PutKeepsPlaces = (es : List (Cell × Value)) (k : Cell) (v : Value) → has k (keys_of es) ≡ true → keys_of (with_entry es k v) ≡ keys_of es

-- what was put is found
abbrev pub PutIsFound : Type 0
PutIsFound = (es : List (Cell × Value)) (k : Cell) (v : Value) → value_at k (with_entry es k v) ≡ Some v

-- a removal leaves the others in their order
abbrev pub RemovalKeepsOrder : Type 0
RemovalKeepsOrder = (ks : List Cell) (k : Cell) → IsDistinct same ks → without_key ks k ≡ filter (λ x. not (same k x)) ks

-- where all elements are there, `addAll` changes nothing
abbrev pub AddedWhereNew : Type 0
AddedWhereNew = (ks more : List Cell) → AllByRecursion (λ k. has k ks ≡ true) more → with_keys ks more ≡ ks

-- no item stands before a lesser one
abbrev pub Rises : List Value → Type 0
Rises [] = Unit {0}
Rises (x ∷ xs) = AllByRecursion (λ y. less y x ≡ false) xs × Rises xs

abbrev pub SortRises : Type 0
SortRises = (xs : List Value) → Rises (sorted xs)

-- how many items are neither less nor greater than a value
abbrev pub times : Value → List Value → ℕ
times z [] = 0
times z (y ∷ ys) = cond (less z y) 0 (cond (less y z) 0 1) + times z ys

abbrev pub SortKeepsItems : Type 0
SortKeepsItems = (xs : List Value) (z : Value) → times z (sorted xs) ≡ times z xs
