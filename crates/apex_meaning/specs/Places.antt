-- Variables that are read and assigned to (docs/language.md, "What code does").
use Rattle.std.specs.Prelude.{ℕ, Bool, true, false, cond, List, [], ◌∷◌, slice_get, slice_index_or, Option, None, Some}
use Rattle.apex_num.specs.declared.cell.Cell.{Cell}
use Rattle.apex_num.specs.declared.kind.LimitKind.TheVariants.{Alloc}
use Rattle.builtin_table.specs.declared.method.Builtin.TheVariants as B
use Rattle.builtin_table.specs.declared.method.ListMethod.TheVariants as L
use Rattle.platform_errors.specs.declared.thrown.Thrown.TheVariants.{NullObject, ReadOnly}
use Rattle.save_meaning.specs.Results.{Gives, bind}
use Rattle.request_states.specs.Runs.{Setting}
use Rattle.request_states.specs.States.{State, Res, charge, set_local, throws, with_heap}
use Rattle.request_states.specs.Values.{null}
use Rattle.txn_heap.specs.Guards.{guard_of, takes_cell}
use Rattle.txn_heap.specs.declared.thing.Record.{Record}
use Rattle.txn_heap.specs.declared.thing.Thing.{Thing}
use Rattle.txn_heap.specs.declared.thing.Thing.TheVariants as T
use Rattle.txn_heap.specs.declared.thing.Value.{Value}
use Rattle.txn_heap.specs.declared.thing.Value.TheVariants.{Plain, Object}
use Rattle.heap_methods.specs.Operands.{or_null}
use Rattle.txn_heap.specs.Changes.{changed as things_changed, thing_after}
use Rattle.txn_heap.specs.Statics.{static_at, with_static}
use Rattle.txn_heap.specs.declared.change.Change.TheVariants as Now
use Rattle.typed_program.specs.declared.expr.Assignment.{Assignment}
use Rattle.typed_program.specs.declared.expr.Number.{Number}
use Rattle.typed_program.specs.declared.expr.StepKind.{StepKind}
use Rattle.value_operators.specs.Operators.{converted, stepped}
use Rattle.apex_meaning.specs.Builtins.{cell_in}
use Rattle.apex_meaning.specs.Classes.{field_place}
use Rattle.apex_meaning.specs.Collections.{on_collection}
use Rattle.apex_meaning.specs.Meanings.{Again, Do, Run, Behind, calc}
use Rattle.apex_meaning.specs.Operations.{apply}
use Rattle.apex_meaning.specs.Preparing.{prepared, with_statics}
use Rattle.apex_meaning.specs.Records.{cell_in as record_cell}

-- a variable once its parts were evaluated
pub data Target : Type 0 where
  LocalAt : ℕ → Target
  StaticAt : ℕ → ℕ → Target
  -- the instance, the class and its field
  FieldAt : Value → ℕ → ℕ → Target
  -- the record, its object and its field
  CellAt : Value → ℕ → ℕ → Bool → Target
  -- the list and the position
  ItemAt : Value → Value → Target

-- ---- fields of instances

abbrev pub field_of_thing : ℕ → Option Thing → Run
field_of_thing place (Some (T.Instance i)) st = Gives (slice_index_or i.fields place null) st
field_of_thing place _ st = throws NullObject st

abbrev pub field_in : ℕ → Value → Run
field_in place (Plain c) st = throws NullObject st
field_in place (Object r) st = field_of_thing place (slice_get st.world.heap r.place) st

abbrev pub set_in_thing : ℕ → Value → ℕ → Option Thing → Do
set_in_thing place v at (Some (T.Instance i)) st = Gives tt (with_heap (things_changed at (thing_after (Now.Set place v)) st.world.heap) st)
set_in_thing place v at _ st = throws NullObject st

abbrev pub set_field : ℕ → Value → Value → Do
set_field place (Plain c) v st = throws NullObject st
set_field place (Object r) v st = set_in_thing place v r.place (slice_get st.world.heap r.place) st

-- ---- cells of records

-- a cell costs 32 units where the record didn't know it before
abbrev pub setting_units : Option Cell → ℕ
setting_units None = 32
setting_units (Some c) = 0

-- the things, where a record knows this cell
abbrev pub with_cell : ℕ → Value → ℕ → List Thing → List Thing
with_cell field v at things = things_changed at (thing_after (Now.Know field (cell_in v))) things

-- what guards a record of a trigger may not take the cell
abbrev pub if_takes_cell : Bool → Do → Do
if_takes_cell true go st = go st
if_takes_cell false go st = throws ReadOnly st

abbrev pub know_cell : ℕ → Value → ℕ → Record → Do
know_cell field v at r st =
    bind (charge Alloc (setting_units (slice_index_or r.cells field None)) st) (λ u s. Gives tt (with_heap (with_cell field v at s.world.heap) s))

abbrev pub set_cell_in_thing : ℕ → Value → ℕ → Option Thing → Do
set_cell_in_thing field v at (Some (T.Record r)) st = if_takes_cell (takes_cell (guard_of st.world.heap at) field) (know_cell field v at r) st
set_cell_in_thing field v at _ st = throws NullObject st

abbrev pub set_cell : ℕ → Value → Value → Do
set_cell field (Plain c) v st = throws NullObject st
set_cell field (Object r) v st = set_cell_in_thing field v r.place (slice_get st.world.heap r.place) st

-- ---- all variables

module _ (setting : Setting) where
  abbrev pub load : Target → Run
  load (LocalAt x) st = Gives (slice_index_or st.here.locals x null) st
  load (StaticAt c n) st = Gives (or_null (static_at c n st.world.statics)) st
  load (FieldAt v c n) st = field_in (field_place setting.program c n) v st
  load (CellAt v object field goes_on) st = calc (record_cell setting.schema field goes_on v st.world.heap) st
  load (ItemAt list at) st = on_collection (B.List L.Get) list (at ∷ []) st

  abbrev pub store : Target → Value → Do
  store (LocalAt x) v st = Gives tt (set_local x v st)
  store (StaticAt c n) v st = Gives tt (with_statics (with_static c n v st.world.statics) st)
  store (FieldAt o c n) v st = set_field (field_place setting.program c n) o v st
  store (CellAt o object field goes_on) v st = set_cell field o v st
  store (ItemAt list at) v st = bind (on_collection (B.List L.Set) list (at ∷ v ∷ []) st) (λ u s. Gives tt s)

module _ (setting : Setting) (again : Again) where
  -- the class of a static is prepared first
  abbrev pub ready : Target → Do
  ready (StaticAt c n) st = prepared setting.program again c st
  ready _ st = Gives tt st

  -- the value of a variable
  abbrev pub got : Target → Run
  got t st = bind (ready t st) (λ u s. load setting t s)

  -- the parts of the variable, the value, the store; the value is that of the whole
  abbrev pub assigned : Run → Target → Run
  assigned value t st = bind (value st) (λ v s. bind (ready t s) (λ u s1. bind (store setting t v s1) (λ u1 s2. Gives v s2)))

  -- the variable's value, the other one, the operator, the store
  abbrev pub assigned_with : Assignment → Run → Target → Run
  assigned_with how value t st =
      bind (got t st) (λ old s.
      bind (value s) (λ v s1.
      bind (apply how.left how.op how.right old v s1) (λ w s2.
      bind (calc (converted how.back w) s2) (λ x s3.
      bind (store setting t x s3) (λ u s4. Gives x s4)))))

  -- `++` and `--`: the new value where they stand before, and the old one where they stand behind
  abbrev pub changed : StepKind → Number → Target → Run
  changed kind n t st =
      bind (got t st) (λ old s.
      bind (calc (stepped kind.up n old) s) (λ new s1.
      bind (store setting t new s1) (λ u s2. Gives (cond kind.before new old) s2)))
