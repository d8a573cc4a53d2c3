-- Fields of the instances that values name, and steps of variables.
use Rattle.std.specs.Prelude.{ℕ, Bool, true, false, cond, List, [], ◌∷◌, slice_get, slice_index_or, Option, None, Some}
use Rattle.apex_meaning.specs.Builtins.{first_of, rest_of}
use Rattle.builtin_table.specs.declared.method.Builtin.TheVariants as B
use Rattle.builtin_table.specs.declared.method.ListMethod.TheVariants as L
use Rattle.heap_methods.specs.Operands.{or_null}
use Rattle.request_states.specs.Values.{null}
use Rattle.stack_code.specs.Machine.{Next, next, on_calc, on_taken, with_local, with_statics}
use Rattle.stack_code.specs.Things.{collection, field_loaded, field_stored, stored}
use Rattle.stack_code.specs.declared.code.Slot.TheVariants as S
use Rattle.stack_code.specs.declared.state.Config.{Config}
use Rattle.txn_heap.specs.Statics.{static_at, with_static}
use Rattle.txn_heap.specs.declared.thing.Ref.{Ref}
use Rattle.txn_heap.specs.declared.thing.Thing.{Thing}
use Rattle.txn_heap.specs.declared.thing.Thing.TheVariants as T
use Rattle.txn_heap.specs.declared.thing.Value.{Value}
use Rattle.txn_heap.specs.declared.thing.Value.TheVariants.{Plain, Object}
use Rattle.typed_program.specs.declared.expr.Number.{Number}
use Rattle.typed_program.specs.declared.expr.StepKind.{StepKind}
use Rattle.value_operators.specs.Operators.{stepped}

abbrev pub field_of : ℕ → Option Thing → Option Value
field_of place (Some (T.Instance i)) = Some (slice_index_or i.fields place null)
field_of place _ = None

-- none where the value names no instance
abbrev pub field_at : ℕ → Value → List Thing → Option Value
field_at place (Plain k) heap = None
field_at place (Object r) heap = field_of place (slice_get heap r.place)

abbrev pub is_instance : Option Thing → Bool
is_instance (Some (T.Instance i)) = true
is_instance _ = false

abbrev pub instance_at : Value → List Thing → Option Ref
instance_at (Plain k) heap = None
instance_at (Object r) heap = cond (is_instance (slice_get heap r.place)) (Some r) None

-- an element of a list
abbrev pub element : Value → Value → Config → (Value → Config → Next) → Next
element list at c go = collection (B.List L.Get) list (at ∷ []) c go

-- ---- steps of fields and elements, which no schema says anything of

abbrev pub field_got : ℕ → Config → Next
field_got place c = on_taken 1 c.top.stack (λ ps stack. field_loaded place (first_of ps) c (λ v d. next d (v ∷ stack)))

abbrev pub item_got : Config → Next
item_got c = on_taken 2 c.top.stack (λ ps stack. element (first_of ps) (first_of (rest_of ps)) c (λ v d. next d (v ∷ stack)))

abbrev pub field_fetched : ℕ → Config → Next
field_fetched place c = on_taken 1 c.top.stack (λ ps stack. field_loaded place (first_of ps) c (λ v d. next d (v ∷ d.top.stack)))

abbrev pub item_fetched : Config → Next
item_fetched c = on_taken 2 c.top.stack (λ ps stack. element (first_of ps) (first_of (rest_of ps)) c (λ v d. next d (v ∷ d.top.stack)))

abbrev pub local_changed : StepKind → Number → ℕ → Config → Next
local_changed kind n x c =
    on_calc (stepped kind.up n (slice_index_or c.top.here.locals x null)) c (λ new. next (with_local c x new) (cond kind.before new (slice_index_or c.top.here.locals x null) ∷ c.top.stack))

abbrev pub static_changed : StepKind → Number → ℕ → ℕ → Config → Next
static_changed kind n k m c =
    on_calc (stepped kind.up n (or_null (static_at k m c.world.statics))) c (λ new. next (with_statics c (with_static k m new c.world.statics)) (cond kind.before new (or_null (static_at k m c.world.statics)) ∷ c.top.stack))

abbrev pub field_stepped : StepKind → Number → ℕ → Config → Next
field_stepped kind n place c =
    on_taken 1 c.top.stack (λ ps stack.
    field_loaded place (first_of ps) c (λ old d. on_calc (stepped kind.up n old) d (λ new. field_stored place (first_of ps) new d (λ e. next e (cond kind.before new old ∷ stack)))))

abbrev pub item_stepped : StepKind → Number → Config → Next
item_stepped kind n c =
    on_taken 2 c.top.stack (λ ps stack.
    element (first_of ps) (first_of (rest_of ps)) c (λ old d. on_calc (stepped kind.up n old) d (λ new. stored S.Item ps new d (λ e. next e (cond kind.before new old ∷ stack)))))
