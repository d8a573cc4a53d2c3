-- What is said of calls of methods of collections, and of what is taken for a new one.
use Rattle.std.specs.Prelude.{◌≡◌, ℕ, List, [], ◌∷◌, slice_get, Option, None, Some, Result, Ok, Err}
use Rattle.apex_num.specs.declared.kind.LimitKind.TheVariants as K
use Rattle.builtin_table.specs.declared.exception.ExceptionClass.{ExceptionClass}
use Rattle.builtin_table.specs.declared.method.Builtin.{Builtin as Which}
use Rattle.builtin_table.specs.declared.exception.BuiltinEnd.{BuiltinEnd}
use Rattle.builtin_table.specs.declared.exception.BuiltinEnd.TheVariants as End
use Rattle.heap_methods.specs.Making.{set_of}
use Rattle.heap_methods.specs.Outcomes.{Outcome, Fails, done as things_done, units_of}
use Rattle.txn_heap.specs.declared.thing.Thing.{Thing}
use Rattle.txn_heap.specs.declared.thing.Thing.TheVariants as T
use Rattle.txn_heap.specs.declared.thing.Value.{Value}
use Rattle.typed_program.specs.declared.expr.CollectionKind.{CollectionKind}
use Rattle.typed_program.specs.declared.expr.CollectionKind.TheVariants as Kinds
use Rattle.stack_code.specs.declared.state.Config.{Config}
use Rattle.stack_code.specs.Machine.{Next, charged}
use Rattle.stack_code.specs.Things.{collection, done_next}
use Rattle.program_things.specs.declared.moved.Moved.{Moved}
use Rattle.program_things.specs.Steps.{IsStep, Takes}

-- whatever comes then: on with what is given and the state behind it, or the step in its place
abbrev pub Comes : ((Value → Config → Next) → Next) → Result Value Moved → Config → Type 0
Comes does (Ok v) d = (go : Value → Config → Next) → does go ≡ go v d
Comes does (Err m) d = (go : Value → Config → Next) → IsStep (does go) m d

-- the frame is as it was
abbrev pub SameFrame : Config → Result Value Moved → Config → Type 0
SameFrame c (Ok v) d = d.top ≡ c.top
SameFrame c (Err m) d = Unit {0}

-- a method of a collection
abbrev pub Collects : Which → Value → List Value → Config → Result Value Moved → Config → Type 0
Collects which on args c r d = Comes (λ go. collection which on args c go) r d

-- an outcome for the thing at a place is charged and then carried out
abbrev pub carried : Outcome → ℕ → Config → (Value → Config → Next) → Next
carried o place c go = charged K.Alloc (units_of (slice_get c.world.heap place) o) c (λ e. done_next (things_done place e.world.heap o) e go)

abbrev pub Carries : Outcome → ℕ → Config → Result Value Moved → Config → Type 0
Carries o place c r d = Comes (λ go. carried o place c go) r d

-- what a method throws, of whatever it is a method
abbrev pub Throws : ExceptionClass → List ℕ → Config → Moved → Config → Type 0
Throws class message c m d = (place : ℕ) (before : Option Thing) (go : Value → Config → Next) →
    IsStep (charged K.Alloc (units_of before (Fails class message)) c (λ e. done_next (things_done place e.world.heap (Fails class message)) e go)) m d

-- what a method throws that can't be carried out; where memory is lacking there is no step
abbrev pub ThrowsBy : BuiltinEnd → Config → Moved → Config → Type 0
ThrowsBy (End.Throw class message) c m d = Throws class message c m d
ThrowsBy End.NoMemory c m d = ⊥

-- a new collection of items
abbrev pub filled_of : CollectionKind → List Value → Thing
filled_of Kinds.List vs = T.List vs
filled_of (Kinds.Set p) vs = T.Set (set_of vs)
filled_of (Kinds.Map p) vs = T.Map []

-- keys and values in turn
abbrev pub flat : List (Value × Value) → List Value
flat [] = []
flat (p ∷ ps) = p.0 ∷ p.1 ∷ flat ps

-- a value from the top, and a key under it
abbrev pub TakesPair : List Value → Value → Value → List Value → Type 0
TakesPair stack k v rest = (mid : List Value) × Takes stack v mid × Takes mid k rest
