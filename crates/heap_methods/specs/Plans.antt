-- What code that only reads the things plans to do, and how its answers stand for outcomes.
use Rattle.std.specs.Prelude.{◌≡◌, List, Result, Ok, Err, Option, None, Some, ⊤}
use Rattle.builtin_table.specs.declared.exception.BuiltinEnd.{BuiltinEnd}
use Rattle.builtin_table.specs.declared.exception.BuiltinEnd.TheVariants as End
use Rattle.txn_heap.specs.Changes.{thing_after}
use Rattle.txn_heap.specs.declared.thing.Thing.{Thing}
use Rattle.txn_heap.specs.declared.thing.Thing.TheVariants as T
use Rattle.txn_heap.specs.declared.thing.Value.{Value}
use Rattle.heap_methods.specs.Lists.{joined}
use Rattle.heap_methods.specs.Operands.{null}
use Rattle.heap_methods.specs.declared.plan.Plan.{Plan}
use Rattle.heap_methods.specs.declared.plan.Plan.TheVariants as P
use Rattle.heap_methods.specs.Outcomes.{Outcome, Done, Tells, Spells, Becomes, Makes, Fails, Answers, Throws}

-- of a thing
abbrev pub planned : Plan → Option Thing → Outcome
planned (P.Tells v) thing = Tells v
planned (P.Joins between) (Some (T.List xs)) = Spells (joined between xs)
planned (P.Joins between) _ = Tells null
planned (P.Changes change v) None = Tells v
planned (P.Changes change v) (Some thing) = Becomes (thing_after change thing) v
planned (P.Replaces new v) thing = Becomes new v
planned (P.Makes new) thing = Makes new

-- want of memory is free
abbrev pub FailsBy : Outcome → BuiltinEnd → Type 0
FailsBy o (End.Throw class message) = o ≡ Fails class message
FailsBy o End.NoMemory = ⊤

abbrev pub Plans : Outcome → Option Thing → Result Plan BuiltinEnd → Type 0
Plans o thing (Ok plan) = o ≡ planned plan thing
Plans o thing (Err end) = FailsBy o end

abbrev pub EndsBy : Done → BuiltinEnd → Type 0
EndsBy d (End.Throw class message) = d ≡ Throws class message
EndsBy d End.NoMemory = ⊤

-- a call between these things ends so; after an error nothing has changed
abbrev pub Ends : Done → List Thing → List Thing → Result Value BuiltinEnd → Type 0
Ends d before after (Ok v) = d ≡ Answers v after
Ends d before after (Err end) = (after ≡ before) × EndsBy d end

abbrev pub Copies : Outcome → Result Thing BuiltinEnd → Type 0
Copies o (Ok thing) = o ≡ Makes thing
Copies o (Err end) = FailsBy o end
