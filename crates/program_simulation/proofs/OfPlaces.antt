-- What variables come to that are read and assigned to.
use Rattle.std.proofs.Common.{◌≡◌, ℕ, ◌+◌, Bool, true, false, cond, List, [], ◌∷◌, ◌++◌, length, drop, slice_get, slice_index_or, Option, Some, None, refl, ap, ◌∙◌, subst}
use Rattle.request_states.specs.Runs.{Setting, site_of}
use Rattle.request_states.specs.States.{State, Res, charge, with_heap}
use Rattle.apex_num.specs.declared.kind.LimitKind.TheVariants.{Alloc}
use Rattle.builtin_table.specs.declared.method.Builtin.TheVariants as Which
use Rattle.builtin_table.specs.declared.method.ListMethod.TheVariants as L
use Rattle.apex_meaning.specs.Classes.{field_place}
use Rattle.apex_meaning.specs.Collections.{on_collection}
use Rattle.apex_meaning.specs.Expressions.{Where}
use Rattle.apex_meaning.specs.Meanings.{Again, Run, calc}
use Rattle.apex_meaning.specs.Operations.{apply}
use Rattle.apex_meaning.specs.Places.{Target, LocalAt, StaticAt, FieldAt, CellAt, ItemAt, field_in, field_of_thing, set_cell, set_cell_in_thing, set_field, set_in_thing, if_takes_cell, know_cell, setting_units, with_cell, load, store, ready, got, assigned, assigned_with, changed}
use Rattle.apex_meaning.specs.Records.{cell_in as record_cell}
use Rattle.save_meaning.proofs.Holding.{bind_bind, bound, weaken}
use Rattle.save_meaning.specs.Results.{Gives, bind, Holds}
use Rattle.save_meaning.specs.Sites.{Site}
use Rattle.save_meaning.specs.declared.run.TxnState.{TxnState}
use Rattle.tenant_trails.specs.Runs as Trail
use Rattle.txn_heap.specs.Guards.{guard_of, takes_cell}
use Rattle.txn_heap.specs.declared.thing.Record.{Record}
use Rattle.txn_heap.specs.declared.thing.Thing.{Thing}
use Rattle.txn_heap.specs.declared.thing.Thing.TheVariants as T
use Rattle.txn_heap.specs.declared.thing.Value.{Value}
use Rattle.txn_heap.specs.declared.thing.Value.TheVariants.{Plain, Object}
use Rattle.typed_program.specs.declared.expr.Assignment.{Assignment}
use Rattle.typed_program.specs.declared.expr.Number.{Number}
use Rattle.typed_program.specs.declared.expr.StepKind.{StepKind}
use Rattle.typed_program.specs.declared.program.Program.{Program}
use Rattle.value_operators.specs.Operators.{Calc, converted, stepped}
use Rattle.value_operators.specs.declared.calculated.Calculated.TheVariants.{Val, Fails}
use Rattle.stack_code.specs.Code.{PlaceCode}
use Rattle.stack_code.specs.Machine.{Next, next, on_calc}
use Rattle.stack_code.specs.Things as M
use Rattle.stack_code.specs.declared.code.Instr.{Instr}
use Rattle.stack_code.specs.declared.code.Instr.TheVariants as I
use Rattle.stack_code.specs.declared.code.Slot.{Slot}
use Rattle.stack_code.specs.declared.code.Slot.TheVariants as S
use Rattle.stack_code.specs.declared.image.Image.{Image}
use Rattle.stack_code.specs.declared.state.Config.{Config}
use Rattle.program_simulation.proofs.Classes.{IsImage}
use Rattle.program_simulation.proofs.Frames as F
use Rattle.program_simulation.proofs.Simulates as Sim
use Rattle.program_simulation.proofs.Simulates.{Around, Stands, config}
use Rattle.program_simulation.proofs.OfValues.{Follow, apply_at, converted_at}
use Rattle.program_simulation.proofs.OfLists.{pushed, taken_comes}
use Rattle.program_simulation.proofs.OfThings.{Onward, onward, collection_at}
use Rattle.program_simulation.proofs.Preparing.{prepared_at}

-- ---- a variable whose parts were evaluated: its parts on the operand stack, and what the code says of it

abbrev pub parts_in : Target → List Value
parts_in (LocalAt x) = []
parts_in (StaticAt c n) = []
parts_in (FieldAt v c n) = v ∷ []
parts_in (CellAt v object field goes_on) = v ∷ []
parts_in (ItemAt v w) = v ∷ w ∷ []

abbrev pub ready_of : Target → List Instr
ready_of (StaticAt c n) = I.Prepare c ∷ []
ready_of _ = []

abbrev pub slot_of : Program → Target → Slot
slot_of program (LocalAt x) = S.Local x
slot_of program (StaticAt c n) = S.Static c n
slot_of program (FieldAt v c n) = S.Field (field_place program c n)
slot_of program (CellAt v object field goes_on) = S.Cell field goes_on
slot_of program (ItemAt v w) = S.Item

as_many : (program : Program) (t : Target) → length (parts_in t) ≡ M.parts_of (slot_of program t)
as_many program (LocalAt x) = refl
as_many program (StaticAt c n) = refl
as_many program (FieldAt v c n) = refl
as_many program (CellAt v object field goes_on) = refl
as_many program (ItemAt v w) = refl

module _ (setting : Setting) (image : Image) (r : Trail.Run) where
  abbrev site : Site
  site = site_of setting

  abbrev program : Program
  program = setting.program

  abbrev At : Around → List Instr → List Value → State → Type 0
  At a k temps st = Sim.At site image r a k temps st

  -- code that leaves the parts of a variable, and says what the variable is
  abbrev pub Places : Where → PlaceCode → Type 0
  Places f p =
      (a : Around) (k : List Instr) (temps : List Value) (st : State) →
      Holds (λ t s. p.slot ≡ slot_of program t → p.ready ≡ ready_of t → At a k (pushed (parts_in t) temps) s) (Sim.Stopped site image r a) (f st) → At a (p.parts ++ k) temps st

  -- ---- fields

  field_by : (a : Around) (place : ℕ) (v : Value) (pc : ℕ) (old : List Value) (st : State) (w : TxnState) (go : Value → Config → Next) (c : Config) → Stands a.below st w → Onward site image r a pc old go c (field_in place v st) → Sim.Comes site image r (M.field_loaded place v (config a pc old st w) go) c st.world.txn.tape
  field_by a place (Plain cell) pc old st w go c b post = post.by pc [] w b
  field_by a place (Object ref) pc old st w go c b post = by (slice_get st.world.heap ref.place) post where
    by : (t : Option Thing) → Onward site image r a pc old go c (field_of_thing place t st) → Sim.Comes site image r (M.field_of_thing place t (config a pc old st w) go) c st.world.txn.tape
    by (Some (T.Instance i)) h = h w b
    by t h = h.by pc [] w b

  set_by : (a : Around) (place : ℕ) (v x : Value) (pc : ℕ) (old : List Value) (st : State) (w : TxnState) (go : Config → Next) (c : Config) → Stands a.below st w → Onward site image r a pc old (λ u. go) c (set_field place v x st) → Sim.Comes site image r (M.field_stored place v x (config a pc old st w) go) c st.world.txn.tape
  set_by a place (Plain cell) x pc old st w go c b post = post.by pc [] w b
  set_by a place (Object ref) x pc old st w go c b post = by (slice_get st.world.heap ref.place) post where
    by : (t : Option Thing) → Onward site image r a pc old (λ (u : Unit {0}). go) c (set_in_thing place x ref.place t st) → Sim.Comes site image r (M.set_in_thing place x ref.place t (config a pc old st w) go) c st.world.txn.tape
    by (Some (T.Instance i)) h = h w b
    by t h = h.by pc [] w b

  -- a field that is read, and one of `this` that gets its initial value
  pub field_at : (place : ℕ) → Sim.Takes site image r (field_in place) (I.Get (S.Field place) ∷ [])
  field_at place a v k temps st post =
      Sim.first site image r a (I.Get (S.Field place)) k (v ∷ temps) st (λ pc w b d. field_by a place v pc (v ∷ temps) st w _ (config a pc (v ∷ temps) st w) b (onward site image r a pc k temps (v ∷ temps) (config a pc (v ∷ temps) st w) (field_in place v st) d post))

  pub own_field_at : (place : ℕ) (a : Around) (v : Value) (k : List Instr) (temps : List Value) (st : State) → Holds (λ u s. At a k temps s) (Sim.Stopped site image r a) (set_field place st.here.this v st) → At a (I.SetOwn place ∷ k) (v ∷ temps) st
  own_field_at place a v k temps st post =
      Sim.first site image r a (I.SetOwn place) k (v ∷ temps) st (λ pc w b d. set_by a place st.here.this v pc (v ∷ temps) st w _ (config a pc (v ∷ temps) st w) b
      (weaken _ _ (Sim.Stopped site image r a) (set_field place st.here.this v st) (λ u s h x y. h.by (pc + 1) x y d) post))

  -- ---- cells of records

  -- what a record gives, or what is thrown in its place
  given_by : (a : Around) (x : Calc) (pc : ℕ) (old : List Value) (st : State) (w : TxnState) (go : Value → Config → Next) (c : Config) → Stands a.below st w → Onward site image r a pc old go c (calc x st) → Sim.Comes site image r (on_calc x (config a pc old st w) (λ v. go v (config a pc old st w))) c st.world.txn.tape
  given_by a (Val v) pc old st w go c b post = post w b
  given_by a (Fails t) pc old st w go c b post = post.by pc [] w b

  set_cell_by : (a : Around) (field : ℕ) (v x : Value) (pc : ℕ) (old : List Value) (st : State) (w : TxnState) (go : Config → Next) (c : Config) → Stands a.below st w → Onward site image r a pc old (λ u. go) c (set_cell field v x st) → Sim.Comes site image r (M.cell_stored field v x (config a pc old st w) go) c st.world.txn.tape
  set_cell_by a field (Plain cell) x pc old st w go c b post = post.by pc [] w b
  set_cell_by a field (Object ref) x pc old st w go c b post = by (slice_get st.world.heap ref.place) post where
    taking : (takes : Bool) (known : Record) → Onward site image r a pc old (λ (u : Unit {0}). go) c (if_takes_cell takes (know_cell field x ref.place known) st) →
        Sim.Comes site image r (M.if_takes_cell takes (config a pc old st w) (M.know_cell field x ref.place known (config a pc old st w) go)) c st.world.txn.tape
    taking true known h =
        let units = setting_units (slice_index_or known.cells field None) in
        Sim.charge_at site image r a Alloc units st pc old w _ c b
        (bound (λ u s. (z : TxnState) → Stands a.below s z → Sim.Comes site image r (go (config a pc old s z)) c s.world.txn.tape) (Sim.Stopped site image r a) (charge Alloc units st) (λ u s. Gives tt (with_heap (with_cell field x ref.place s.world.heap) s)) h)
    taking false known h = h.by pc [] w b

    by : (t : Option Thing) → Onward site image r a pc old (λ (u : Unit {0}). go) c (set_cell_in_thing field x ref.place t st) → Sim.Comes site image r (M.set_cell_in_thing field x ref.place t (config a pc old st w) go) c st.world.txn.tape
    by (Some (T.Record known)) h = taking (takes_cell (guard_of st.world.heap ref.place) field) known h
    by t h = h.by pc [] w b

  -- a cell that is read
  pub cell_part_at : (field : ℕ) (goes_on : Bool) → Sim.Takes site image r (λ v st. calc (record_cell setting.schema field goes_on v st.world.heap) st) (I.Get (S.Cell field goes_on) ∷ [])
  cell_part_at field goes_on a v k temps st post =
      Sim.first site image r a (I.Get (S.Cell field goes_on)) k (v ∷ temps) st (λ pc w b d. given_by a (record_cell setting.schema field goes_on v st.world.heap) pc (v ∷ temps) st w (λ x e. next e (x ∷ temps)) (config a pc (v ∷ temps) st w) b
      (onward site image r a pc k temps (v ∷ temps) (config a pc (v ∷ temps) st w) (calc (record_cell setting.schema field goes_on v st.world.heap) st) d post))

  -- ---- all variables

  loaded_by : (a : Around) (t : Target) (pc : ℕ) (old : List Value) (st : State) (w : TxnState) (go : Value → Config → Next) (c : Config) → Stands a.below st w → Onward site image r a pc old go c (load setting t st) → Sim.Comes site image r (M.loaded setting.schema (slot_of program t) (parts_in t) (config a pc old st w) go) c st.world.txn.tape
  loaded_by a (LocalAt x) pc old st w go c b post = post w b
  loaded_by a (StaticAt k n) pc old st w go c b post = post w b
  loaded_by a (FieldAt v k n) pc old st w go c b post = field_by a (field_place program k n) v pc old st w go c b post
  loaded_by a (CellAt v object field goes_on) pc old st w go c b post = given_by a (record_cell setting.schema field goes_on v st.world.heap) pc old st w go c b post
  loaded_by a (ItemAt v x) pc old st w go c b post = collection_at site image r a (Which.List L.Get) v (x ∷ []) pc old st w go c b post

  stored_by : (a : Around) (t : Target) (x : Value) (pc : ℕ) (old : List Value) (st : State) (w : TxnState) (go : Config → Next) (c : Config) → Stands a.below st w → Onward site image r a pc old (λ u. go) c (store setting t x st) → Sim.Comes site image r (M.stored (slot_of program t) (parts_in t) x (config a pc old st w) go) c st.world.txn.tape
  stored_by a (LocalAt n) x pc old st w go c b post = post w b
  stored_by a (StaticAt k n) x pc old st w go c b post = post w b
  stored_by a (FieldAt v k n) x pc old st w go c b post = set_by a (field_place program k n) v x pc old st w go c b post
  stored_by a (CellAt v object field goes_on) x pc old st w go c b post = set_cell_by a field v x pc old st w go c b post
  stored_by a (ItemAt v y) x pc old st w go c b post =
      collection_at site image r a (Which.List L.Set) v (y ∷ x ∷ []) pc old st w (λ u. go) c b
      (bound (λ u s. (z : TxnState) → Stands a.below s z → Sim.Comes site image r (go (config a pc old s z)) c s.world.txn.tape) (Sim.Stopped site image r a) (on_collection (Which.List L.Set) v (y ∷ x ∷ []) st) (λ u s. Gives tt s) post)

  pub get_at : (a : Around) (t : Target) (k : List Instr) (temps : List Value) (st : State) → Follow site image r a k temps (load setting t st) → At a (I.Get (slot_of program t) ∷ k) (pushed (parts_in t) temps) st
  get_at a t k temps st post =
      Sim.first site image r a (I.Get (slot_of program t)) k (pushed (parts_in t) temps) st (λ pc w b d.
      let c = config a pc (pushed (parts_in t) temps) st w in
      taken_comes site image r (M.parts_of (slot_of program t)) (parts_in t) temps (λ ps stack. M.loaded setting.schema (slot_of program t) ps c (λ v e. next e (v ∷ stack))) c st.world.txn.tape (as_many program t)
      (loaded_by a t pc (pushed (parts_in t) temps) st w (λ v e. next e (v ∷ temps)) c b (onward site image r a pc k temps (pushed (parts_in t) temps) c (load setting t st) d post)))

  fetch_at : (a : Around) (t : Target) (k : List Instr) (temps : List Value) (st : State) → Follow site image r a k (pushed (parts_in t) temps) (load setting t st) → At a (I.Fetch (slot_of program t) ∷ k) (pushed (parts_in t) temps) st
  fetch_at a t k temps st post =
      Sim.first site image r a (I.Fetch (slot_of program t)) k (pushed (parts_in t) temps) st (λ pc w b d.
      let c = config a pc (pushed (parts_in t) temps) st w in
      taken_comes site image r (M.parts_of (slot_of program t)) (parts_in t) temps (λ ps stack. M.loaded setting.schema (slot_of program t) ps c (λ v e. next e (v ∷ e.top.stack))) c st.world.txn.tape (as_many program t)
      (loaded_by a t pc (pushed (parts_in t) temps) st w (λ v e. next e (v ∷ e.top.stack)) c b (weaken _ _ (Sim.Stopped site image r a) (load setting t st) (λ x s h v y. h.by (pc + 1) v y d) post)))

  set_at : (a : Around) (t : Target) (v : Value) (k : List Instr) (temps : List Value) (st : State) → Holds (λ u s. At a k (v ∷ temps) s) (Sim.Stopped site image r a) (store setting t v st) → At a (I.Set (slot_of program t) ∷ k) (v ∷ pushed (parts_in t) temps) st
  set_at a t v k temps st post =
      Sim.first site image r a (I.Set (slot_of program t)) k (v ∷ pushed (parts_in t) temps) st (λ pc w b d.
      let c = config a pc (v ∷ pushed (parts_in t) temps) st w in
      taken_comes site image r (M.parts_of (slot_of program t)) (parts_in t) temps (λ ps stack. M.stored (slot_of program t) ps v c (λ e. next e (v ∷ stack))) c st.world.txn.tape (as_many program t)
      (stored_by a t v pc (v ∷ pushed (parts_in t) temps) st w (λ e. next e (v ∷ temps)) c b (weaken _ _ (Sim.Stopped site image r a) (store setting t v st) (λ u s h x y. h.by (pc + 1) x y d) post)))

  change_at : (a : Around) (t : Target) (kind : StepKind) (n : Number) (k : List Instr) (temps : List Value) (st : State) →
      Follow site image r a k temps (bind (load setting t st) (λ old s. bind (calc (stepped kind.up n old) s) (λ new s1. bind (store setting t new s1) (λ u s2. Gives (cond kind.before new old) s2)))) → At a (I.Change kind n (slot_of program t) ∷ k) (pushed (parts_in t) temps) st
  change_at a t kind n k temps st post =
      Sim.first site image r a (I.Change kind n (slot_of program t)) k (pushed (parts_in t) temps) st (λ pc w b d.
      let old = pushed (parts_in t) temps in
      let c = config a pc old st w in
      taken_comes site image r (M.parts_of (slot_of program t)) (parts_in t) temps
      (λ ps stack. M.loaded setting.schema (slot_of program t) ps c (λ x e. on_calc (stepped kind.up n x) e (λ y. M.stored (slot_of program t) ps y e (λ f. next f (cond kind.before y x ∷ stack))))) c st.world.txn.tape (as_many program t)
      (loaded_by a t pc old st w (λ x e. on_calc (stepped kind.up n x) e (λ y. M.stored (slot_of program t) (parts_in t) y e (λ f. next f (cond kind.before y x ∷ temps)))) c b
      (weaken _ _ (Sim.Stopped site image r a) (load setting t st) (λ x s h v y. by pc d c x s v y (stepped kind.up n x) h)
      (bound (λ v s. At a k (v ∷ temps) s) (Sim.Stopped site image r a) (load setting t st) (λ old s. bind (calc (stepped kind.up n old) s) (λ new s1. bind (store setting t new s1) (λ u s2. Gives (cond kind.before new old) s2))) post))))
    where
      by : (pc : ℕ) → drop (pc + 1) (Sim.code image a) ≡ k → (c : Config) (x : Value) (s : State) (v : TxnState) → Stands a.below s v → (o : Calc) → Follow site image r a k temps (bind (calc o s) (λ new s1. bind (store setting t new s1) (λ u s2. Gives (cond kind.before new x) s2))) →
          Sim.Comes site image r (on_calc o (config a pc (pushed (parts_in t) temps) s v) (λ y. M.stored (slot_of program t) (parts_in t) y (config a pc (pushed (parts_in t) temps) s v) (λ f. next f (cond kind.before y x ∷ temps)))) c s.world.txn.tape
      by pc d c x s v b (Fails e) h = h.by pc [] v b
      by pc d c x s v b (Val y) h =
          stored_by a t y pc (pushed (parts_in t) temps) s v (λ f. next f (cond kind.before y x ∷ temps)) c b
          (weaken _ _ (Sim.Stopped site image r a) (store setting t y s) (λ u s2 g z q. g.by (pc + 1) z q d)
          (bound (λ v s. At a k (v ∷ temps) s) (Sim.Stopped site image r a) (store setting t y s) (λ u s2. Gives (cond kind.before y x) s2) h))

module _ (setting : Setting) (image : Image) (r : Trail.Run) (is : IsImage setting.program image) (again : Again) (follows : F.Follows (site_of setting) image r again) where
  abbrev Here : Around → List Instr → List Value → State → Type 0
  Here a k temps st = Sim.At (site_of setting) image r a k temps st

  -- the class of a static is prepared first
  ready_at : (t : Target) → Sim.Keeps (site_of setting) image r (ready setting again t) (ready_of t)
  ready_at (LocalAt x) = λ a k temps st post. post
  ready_at (StaticAt c n) = prepared_at setting image r is again follows c
  ready_at (FieldAt v c n) = λ a k temps st post. post
  ready_at (CellAt v object field goes_on) = λ a k temps st post. post
  ready_at (ItemAt v w) = λ a k temps st post. post

  -- the code of a variable, once its parts are there
  placed : (f : Where) (p : PlaceCode) → Places setting image r f p → (go : Target → Run) (code : List Instr → Slot → List Instr) →
      ((t : Target) (a : Around) (k : List Instr) (temps : List Value) (s : State) → Follow (site_of setting) image r a k temps (go t s) → Here a (code (ready_of t) (slot_of setting.program t) ++ k) (pushed (parts_in t) temps) s) →
      Sim.Puts (site_of setting) image r (λ st. bind (f st) go) (p.parts ++ code p.ready p.slot)
  placed f p h go code then a k temps st post =
      Sim.again_at (site_of setting) image r a p.parts (code p.ready p.slot) k temps st
      (h a (code p.ready p.slot ++ k) temps st
      (weaken _ _ (Sim.Stopped (site_of setting) image r a) (f st)
      (λ t s g e1 e2. Sim.at_same (site_of setting) image r a (code p.ready p.slot ++ k) (code (ready_of t) (slot_of setting.program t) ++ k) (pushed (parts_in t) temps) s (ap (λ x. code p.ready x ++ k) e1 ∙ ap (λ x. code x (slot_of setting.program t) ++ k) e2) (then t a k temps s g))
      (bound (λ v s. Here a k (v ∷ temps) s) (Sim.Stopped (site_of setting) image r a) (f st) go post)))

  -- the value of a static
  pub static_at : (c n : ℕ) → Sim.Puts (site_of setting) image r (got setting again (StaticAt c n)) (I.Prepare c ∷ I.Get (S.Static c n) ∷ [])
  static_at c n a k temps st post =
      ready_at (StaticAt c n) a (I.Get (S.Static c n) ∷ k) temps st
      (weaken _ _ (Sim.Stopped (site_of setting) image r a) (ready setting again (StaticAt c n) st) (λ u s h. get_at setting image r a (StaticAt c n) k temps s h)
      (bound (λ v s. Here a k (v ∷ temps) s) (Sim.Stopped (site_of setting) image r a) (ready setting again (StaticAt c n) st) (λ u s. load setting (StaticAt c n) s) post))

  pub assign_at : (f : Where) (p : PlaceCode) → Places setting image r f p → (g : Run) (is : List Instr) → Sim.Puts (site_of setting) image r g is →
      Sim.Puts (site_of setting) image r (λ st. bind (f st) (assigned setting again g)) (p.parts ++ (is ++ (p.ready ++ I.Set p.slot ∷ [])))
  assign_at f p h g code q =
      placed f p h (assigned setting again g) (λ x slot. code ++ (x ++ I.Set slot ∷ [])) (λ t a k temps s post.
      let end = Sim.Stopped (site_of setting) image r a in
      let ok : Value → State → Type 0 = λ v s1. Here a k (v ∷ temps) s1 in
      Sim.again_at (site_of setting) image r a code (ready_of t ++ I.Set (slot_of setting.program t) ∷ []) k (pushed (parts_in t) temps) s
      (q a ((ready_of t ++ I.Set (slot_of setting.program t) ∷ []) ++ k) (pushed (parts_in t) temps) s
      (weaken _ _ end (g s) (λ v s1 h1.
      Sim.again_at (site_of setting) image r a (ready_of t) (I.Set (slot_of setting.program t) ∷ []) k (v ∷ pushed (parts_in t) temps) s1
      (ready_at t a (I.Set (slot_of setting.program t) ∷ k) (v ∷ pushed (parts_in t) temps) s1
      (weaken _ _ end (ready setting again t s1) (λ u s2 h2. set_at setting image r a t v k temps s2 (bound ok end (store setting t v s2) (λ u1 s3. Gives v s3) h2))
      (bound ok end (ready setting again t s1) (λ u s2. bind (store setting t v s2) (λ u1 s3. Gives v s3)) h1))))
      (bound ok end (g s) (λ v s1. bind (ready setting again t s1) (λ u s2. bind (store setting t v s2) (λ u1 s3. Gives v s3))) post))))

  -- a variable is made ready, and then read
  got_then : (t : Target) (go : Value → State → Res Value) (s : State) → bind (got setting again t s) go ≡ bind (ready setting again t s) (λ u s1. bind (load setting t s1) go)
  got_then t go s = bind_bind (ready setting again t s) (λ u s1. load setting t s1) go

  -- behind both operands
  abbrev operated : Assignment → Target → Value → Value → Run
  operated how t old v st = bind (apply how.left how.op how.right old v st) (λ w s. bind (calc (converted how.back w) s) (λ x s1. bind (store setting t x s1) (λ u s2. Gives x s2)))

  both_at : (t : Target) (a : Around) (how : Assignment) (old v : Value) (k : List Instr) (temps : List Value) (st : State) → Follow (site_of setting) image r a k temps (operated how t old v st) →
      Here a (I.Calc how.left how.op how.right ∷ I.Convert how.back ∷ I.Set (slot_of setting.program t) ∷ k) (v ∷ old ∷ pushed (parts_in t) temps) st
  both_at t a how old v k temps st post =
      let end = Sim.Stopped (site_of setting) image r a in
      let ok : Value → State → Type 0 = λ x s1. Here a k (x ∷ temps) s1 in
      apply_at (site_of setting) image r a how.left how.op how.right old v (I.Convert how.back ∷ I.Set (slot_of setting.program t) ∷ k) (pushed (parts_in t) temps) st
      (weaken _ _ end (apply how.left how.op how.right old v st)
      (λ w s h. converted_at (site_of setting) image r how.back a w (I.Set (slot_of setting.program t) ∷ k) (pushed (parts_in t) temps) s
      (weaken _ _ end (calc (converted how.back w) s) (λ x s1 g. set_at setting image r a t x k temps s1 (bound ok end (store setting t x s1) (λ u s2. Gives x s2) g))
      (bound ok end (calc (converted how.back w) s) (λ x s1. bind (store setting t x s1) (λ u s2. Gives x s2)) h)))
      (bound ok end (apply how.left how.op how.right old v st) (λ w s. bind (calc (converted how.back w) s) (λ x s1. bind (store setting t x s1) (λ u s2. Gives x s2))) post))

  pub step_at : (f : Where) (p : PlaceCode) → Places setting image r f p → (kind : StepKind) (n : Number) →
      Sim.Puts (site_of setting) image r (λ st. bind (f st) (changed setting again kind n)) (p.parts ++ (p.ready ++ I.Change kind n p.slot ∷ []))
  step_at f p h kind n =
      placed f p h (changed setting again kind n) (λ x slot. x ++ I.Change kind n slot ∷ []) (λ t a k temps s post.
      let end = Sim.Stopped (site_of setting) image r a in
      let ok : Value → State → Type 0 = λ v s1. Here a k (v ∷ temps) s1 in
      Sim.again_at (site_of setting) image r a (ready_of t) (I.Change kind n (slot_of setting.program t) ∷ []) k (pushed (parts_in t) temps) s
      (ready_at t a (I.Change kind n (slot_of setting.program t) ∷ k) (pushed (parts_in t) temps) s
      (weaken _ _ end (ready setting again t s) (λ u s1 h1. change_at setting image r a t kind n k temps s1 h1)
      (bound ok end (ready setting again t s) (λ u s1. bind (load setting t s1) (λ old s2. bind (calc (stepped kind.up n old) s2) (λ new s3. bind (store setting t new s3) (λ u1 s4. Gives (cond kind.before new old) s4))))
      (subst (λ res. Holds ok end res) (got_then t (λ old s2. bind (calc (stepped kind.up n old) s2) (λ new s3. bind (store setting t new s3) (λ u1 s4. Gives (cond kind.before new old) s4))) s) post)))))

  pub assign_with_at : (f : Where) (p : PlaceCode) → Places setting image r f p → (how : Assignment) (g : Run) (is : List Instr) → Sim.Puts (site_of setting) image r g is →
      Sim.Puts (site_of setting) image r (λ st. bind (f st) (assigned_with setting again how g)) (p.parts ++ (p.ready ++ I.Fetch p.slot ∷ (is ++ I.Calc how.left how.op how.right ∷ I.Convert how.back ∷ I.Set p.slot ∷ [])))
  assign_with_at f p h how g code q =
      placed f p h (assigned_with setting again how g) (λ x slot. x ++ I.Fetch slot ∷ (code ++ I.Calc how.left how.op how.right ∷ I.Convert how.back ∷ I.Set slot ∷ [])) (λ t a k temps s post.
      let end = Sim.Stopped (site_of setting) image r a in
      let ok : Value → State → Type 0 = λ v s1. Here a k (v ∷ temps) s1 in
      let last : List Instr = I.Calc how.left how.op how.right ∷ I.Convert how.back ∷ I.Set (slot_of setting.program t) ∷ [] in
      Sim.again_at (site_of setting) image r a (ready_of t) (I.Fetch (slot_of setting.program t) ∷ (code ++ last)) k (pushed (parts_in t) temps) s
      (ready_at t a (I.Fetch (slot_of setting.program t) ∷ ((code ++ last) ++ k)) (pushed (parts_in t) temps) s
      (weaken _ _ end (ready setting again t s) (λ u s1 h1.
      fetch_at setting image r a t ((code ++ last) ++ k) temps s1
      (weaken _ _ end (load setting t s1) (λ old s2 h2.
      Sim.again_at (site_of setting) image r a code last k (old ∷ pushed (parts_in t) temps) s2
      (q a (last ++ k) (old ∷ pushed (parts_in t) temps) s2
      (weaken _ _ end (g s2) (λ v s3 h3. both_at t a how old v k temps s3 h3) (bound ok end (g s2) (λ v s3. operated how t old v s3) h2))))
      (bound ok end (load setting t s1) (λ old s2. bind (g s2) (λ v s3. operated how t old v s3)) h1)))
      (bound ok end (ready setting again t s) (λ u s1. bind (load setting t s1) (λ old s2. bind (g s2) (λ v s3. operated how t old v s3)))
      (subst (λ res. Holds ok end res) (got_then t (λ old s2. bind (g s2) (λ v s3. operated how t old v s3)) s) post)))))
