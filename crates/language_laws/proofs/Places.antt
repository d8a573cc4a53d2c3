-- Variables, parts of paths and calls, where the ways back in are paid for.
use Rattle.std.proofs.Common.{ℕ, suc, ◌+◌, Bool, true, false, cond, List, [], ◌∷◌, length, Option, None, Some, refl}
use Rattle.std.specs.Prelude.{slice_get, slice_index_or}
use Rattle.apex_num.specs.declared.kind.LimitKind.TheVariants.{Alloc}
use Rattle.builtin_table.specs.declared.method.Builtin.TheVariants as B
use Rattle.builtin_table.specs.declared.method.ListMethod.TheVariants as L
use Rattle.heap_methods.specs.Operands.{or_null}
use Rattle.platform_errors.specs.declared.thrown.Thrown.TheVariants.{NullObject, InvalidConversion, ReadOnly}
use Rattle.save_meaning.specs.Results.{Gives}
use Rattle.request_states.specs.Runs.{Setting}
use Rattle.request_states.specs.Expressions as Small
use Rattle.request_states.specs.States.{charge, with_heap, with_line, set_local}
use Rattle.request_states.specs.Values.{null}
use Rattle.txn_heap.specs.Guards.{guard_of, takes_cell}
use Rattle.txn_heap.specs.Statics.{static_at, with_static}
use Rattle.txn_heap.specs.declared.thing.Record.{Record}
use Rattle.txn_heap.specs.declared.thing.Thing.{Thing}
use Rattle.txn_heap.specs.declared.thing.Thing.TheVariants as T
use Rattle.txn_heap.specs.declared.thing.Value.{Value}
use Rattle.txn_heap.specs.declared.thing.Value.TheVariants.{Plain, Object}
use Rattle.typed_program.specs.declared.expr.Assignment.{Assignment}
use Rattle.typed_program.specs.declared.expr.Constant.{Constant}
use Rattle.typed_program.specs.declared.expr.Number.{Number}
use Rattle.typed_program.specs.declared.expr.StepKind.{StepKind}
use Rattle.typed_program.specs.declared.program.Program.{Program}
use Rattle.value_operators.specs.Operators.{Calc, converted, stepped}
use Rattle.value_texts.specs.Texts.{text_of}
use Rattle.apex_meaning.specs.Classes.{field_place, target}
use Rattle.apex_meaning.specs.Exceptions as X
use Rattle.apex_meaning.specs.Expressions as E
use Rattle.apex_meaning.specs.Meanings.{Again, Do, Method, Run, calc}
use Rattle.apex_meaning.specs.Places as Pl
use Rattle.apex_meaning.specs.Places.{Target, LocalAt, StaticAt, FieldAt, CellAt, ItemAt}
use Rattle.apex_meaning.specs.Preparing.{with_statics}
use Rattle.apex_meaning.specs.Preparing as Prep
use Rattle.apex_meaning.specs.Records.{cell_in as record_cell}
use Rattle.language_laws.proofs.Paid.{Paid, paid_gives, paid_puts, paid_bind, freely, paid_charge, paid_throws, paid_unbuilt, paid_calc}
use Rattle.language_laws.proofs.Prepared.{stay_written}
use Rattle.language_laws.proofs.Worlds.{later_same, later_kept, later_line, later_statics}
use Rattle.language_laws.proofs.Things.{paid_on_collection, paid_apply}
use Rattle.language_laws.proofs.Classes.{Enough, paid_prepared, paid_call}

module _ (program : Program) (n : ℕ) where
  -- ---- fields of instances

  field_of_thing : (place : ℕ) (o : Option Thing) → Paid program n (Pl.field_of_thing place o)
  field_of_thing place (Some (T.Instance i)) = paid_gives program n (λ s. slice_index_or i.fields place null)
  field_of_thing place o = paid_throws program n NullObject

  pub paid_field_in : (place : ℕ) (v : Value) → Paid program n (Pl.field_in place v)
  paid_field_in place (Plain c) = paid_throws program n NullObject
  paid_field_in place (Object r) = record { at = λ st h lt. (field_of_thing place (slice_get st.world.heap r.place)).at st h lt }

  set_in_thing : (place : ℕ) (v : Value) (at : ℕ) (o : Option Thing) → Paid program n (Pl.set_in_thing place v at o)
  set_in_thing place v at (Some (T.Instance i)) = record { at = λ st h lt. record { holds = later_kept program st.world _ h refl refl refl } }
  set_in_thing place v at o = paid_throws program n NullObject

  pub paid_set_field : (place : ℕ) (o v : Value) → Paid program n (Pl.set_field place o v)
  paid_set_field place (Plain c) v = paid_throws program n NullObject
  paid_set_field place (Object r) v = record { at = λ st h lt. (set_in_thing place v r.place (slice_get st.world.heap r.place)).at st h lt }

  -- ---- cells of records

  if_takes_cell : (b : Bool) (go : Do) → Paid program n go → Paid program n (Pl.if_takes_cell b go)
  if_takes_cell true go h = h
  if_takes_cell false go h = paid_throws program n ReadOnly

  know_cell : (field : ℕ) (v : Value) (at : ℕ) (r : Record) → Paid program n (Pl.know_cell field v at r)
  know_cell field v at r =
      paid_bind program n (charge Alloc (Pl.setting_units (slice_index_or r.cells field None))) _ (paid_charge program n Alloc (Pl.setting_units (slice_index_or r.cells field None)) (freely program))
      (λ u. paid_puts program n (λ s. tt) (λ s. with_heap (Pl.with_cell field v at s.world.heap) s) (λ s h. later_kept program s.world _ h refl refl refl))

  set_cell_in_thing : (field : ℕ) (v : Value) (at : ℕ) (o : Option Thing) → Paid program n (Pl.set_cell_in_thing field v at o)
  set_cell_in_thing field v at (Some (T.Record r)) = record { at = λ st h lt. (if_takes_cell (takes_cell (guard_of st.world.heap at) field) (Pl.know_cell field v at r) (know_cell field v at r)).at st h lt }
  set_cell_in_thing field v at o = paid_throws program n NullObject

  pub paid_set_cell : (field : ℕ) (o v : Value) → Paid program n (Pl.set_cell field o v)
  paid_set_cell field (Plain c) v = paid_throws program n NullObject
  paid_set_cell field (Object r) v = record { at = λ st h lt. (set_cell_in_thing field v r.place (slice_get st.world.heap r.place)).at st h lt }

  -- what a record gives, by the things that are there
  pub paid_seen : (f : List Thing → Calc) → Paid program n (λ st. calc (f st.world.heap) st)
  paid_seen f = record { at = λ st h lt. (paid_calc program n (f st.world.heap)).at st h lt }

  -- ---- casts and constants

  cast_if : (b : Bool) (v : Value) → Paid program n (E.cast_if b v)
  cast_if true v = paid_gives program n (λ s. v)
  cast_if false v = paid_throws program n InvalidConversion

  pub paid_cast : (fits : X.Kind → Bool) (v : Value) → Paid program n (E.cast_to fits v)
  paid_cast fits (Plain c) = paid_gives program n (λ s. Plain c)
  paid_cast fits (Object r) = record { at = λ st h lt. (cast_if (fits (X.kind_of_thing (slice_get st.world.heap r.place))) (Object r)).at st h lt }

  pub paid_constant : (b : Bool) (k : Constant) → Paid program n (Small.constant b k)
  paid_constant true k = paid_gives program n (λ s. _)
  paid_constant false k = paid_unbuilt program n

module _ (setting : Setting) (n : ℕ) where
  -- ---- all variables

  pub paid_load : (t : Target) → Paid setting.program n (Pl.load setting t)
  paid_load (LocalAt x) = paid_gives setting.program n (λ s. slice_index_or s.here.locals x null)
  paid_load (StaticAt c k) = paid_gives setting.program n (λ s. or_null (static_at c k s.world.statics))
  paid_load (FieldAt v c k) = paid_field_in setting.program n (field_place setting.program c k) v
  paid_load (CellAt v object field goes_on) = paid_seen setting.program n (record_cell setting.schema field goes_on v)
  paid_load (ItemAt list at) = paid_on_collection setting.program n (B.List L.Get) list (at ∷ [])

  pub paid_store : (t : Target) (v : Value) → Paid setting.program n (Pl.store setting t v)
  paid_store (LocalAt x) v = paid_puts setting.program n (λ s. tt) (set_local x v) (λ s h. later_same setting.program s.world h)
  paid_store (StaticAt c k) v = paid_puts setting.program n (λ s. tt) (λ s. with_statics (with_static c k v s.world.statics) s) (λ s h. later_statics setting.program s.world _ h (stay_written c k v s.world.statics))
  paid_store (FieldAt o c k) v = paid_set_field setting.program n (field_place setting.program c k) o v
  paid_store (CellAt o object field goes_on) v = paid_set_cell setting.program n field o v
  paid_store (ItemAt list at) v = paid_bind setting.program n _ _ (paid_on_collection setting.program n (B.List L.Set) list (at ∷ v ∷ [])) (λ u. paid_gives setting.program n (λ s. tt))

module _ (setting : Setting) (again : Again) (p : ℕ) (enough : Enough setting.program again p) where
  abbrev program : Program
  program = setting.program

  paid_ready : (t : Target) → Paid program (suc p) (Pl.ready setting again t)
  paid_ready (StaticAt c k) = paid_prepared program again p enough c
  paid_ready (LocalAt x) = paid_gives program (suc p) (λ s. tt)
  paid_ready (FieldAt v c k) = paid_gives program (suc p) (λ s. tt)
  paid_ready (CellAt v object field goes_on) = paid_gives program (suc p) (λ s. tt)
  paid_ready (ItemAt list at) = paid_gives program (suc p) (λ s. tt)

  pub paid_got : (t : Target) → Paid program (suc p) (Pl.got setting again t)
  paid_got t = paid_bind program (suc p) (Pl.ready setting again t) _ (paid_ready t) (λ u. paid_load setting (suc p) t)

  pub paid_assigned : (value : Run) (t : Target) → Paid program (suc p) value → Paid program (suc p) (Pl.assigned setting again value t)
  paid_assigned value t h =
      paid_bind program (suc p) value _ h
      (λ v. paid_bind program (suc p) (Pl.ready setting again t) _ (paid_ready t)
      (λ u. paid_bind program (suc p) (Pl.store setting t v) _ (paid_store setting (suc p) t v) (λ u1. paid_gives program (suc p) (λ s. v))))

  pub paid_assigned_with : (how : Assignment) (value : Run) (t : Target) → Paid program (suc p) value → Paid program (suc p) (Pl.assigned_with setting again how value t)
  paid_assigned_with how value t h =
      paid_bind program (suc p) (Pl.got setting again t) _ (paid_got t)
      (λ old. paid_bind program (suc p) value _ h
      (λ v. paid_bind program (suc p) _ _ (paid_apply program (suc p) how.left how.op how.right old v)
      (λ w. paid_bind program (suc p) _ _ (paid_calc program (suc p) (converted how.back w))
      (λ x. paid_bind program (suc p) (Pl.store setting t x) _ (paid_store setting (suc p) t x) (λ u. paid_gives program (suc p) (λ s. x))))))

  pub paid_changed : (kind : StepKind) (k : Number) (t : Target) → Paid program (suc p) (Pl.changed setting again kind k t)
  paid_changed kind k t =
      paid_bind program (suc p) (Pl.got setting again t) _ (paid_got t)
      (λ old. paid_bind program (suc p) _ _ (paid_calc program (suc p) (stepped kind.up k old))
      (λ new. paid_bind program (suc p) (Pl.store setting t new) _ (paid_store setting (suc p) t new) (λ u. paid_gives program (suc p) (λ s. cond kind.before new old))))

  -- ---- debug lines and calls

  pub paid_say : (names : List (List ℕ)) (v : Value) → Paid program (suc p) (E.say setting again names v)
  paid_say names v = record {
    at = λ st h lt.
        (paid_bind program (suc p) (charge Alloc (16 + length (text_of setting.schema names st.world.heap v))) (λ u s. Gives null (with_line (text_of setting.schema names st.world.heap v) s))
        (paid_charge program (suc p) Alloc (16 + length (text_of setting.schema names st.world.heap v)) (freely program))
        (λ u. paid_puts program (suc p) (λ s. null) (with_line (text_of setting.schema names st.world.heap v)) (λ s k. later_line program s.world (text_of setting.schema names st.world.heap v) k))).at st h lt;
  }

  pub paid_call_static : (c m : ℕ) (args : List Value) → Paid program (suc p) (E.call_static setting again c m args)
  paid_call_static c m args = paid_bind program (suc p) (Prep.prepared program again c) _ (paid_prepared program again p enough c) (λ u. paid_call program again p enough (Method c m) args null)

  call_found : (o : Option (ℕ × ℕ)) (args : List Value) (this : Value) → Paid program (suc p) (E.call_found setting again o args this)
  call_found None args this = paid_throws program (suc p) NullObject
  call_found (Some at) args this = paid_call program again p enough (Method at.0 at.1) args this

  call_by_kind : (c m : ℕ) (k : X.Kind) (args : List Value) (this : Value) → Paid program (suc p) (E.call_by_kind setting again c m k args this)
  call_by_kind c m (X.Declared k) args this = call_found (target program k c m) args this
  call_by_kind c m (X.BuiltIn k) args this = paid_throws program (suc p) NullObject
  call_by_kind c m X.Nothing args this = paid_throws program (suc p) NullObject

  pub paid_call_on : (c m : ℕ) (virtual : Bool) (args : List Value) (v : Value) → Paid program (suc p) (E.call_on setting again c m virtual args v)
  paid_call_on c m true args (Plain k) = paid_throws program (suc p) NullObject
  paid_call_on c m false args (Plain k) = paid_throws program (suc p) NullObject
  paid_call_on c m true args (Object r) = record { at = λ st h lt. (call_by_kind c m (X.kind_of_thing (slice_get st.world.heap r.place)) args (Object r)).at st h lt }
  paid_call_on c m false args (Object r) = paid_call program again p enough (Method c m) args (Object r)

  pub paid_chosen : (a b : Run) (x : Bool) → Paid program (suc p) a → Paid program (suc p) b → Paid program (suc p) (E.chosen setting again a b x)
  paid_chosen a b true h k = h
  paid_chosen a b false h k = k
