-- Instructions that jump, open and close handlers, call and make instances take the weight down.
use Rattle.std.proofs.Common.{◌≡◌, ℕ, ◌+◌, ◌-◌, ◌*◌, ◌<◌, ◌≤◌, Bool, true, false, List, [], ◌∷◌, ◌++◌, length, drop, Option, Some, None, refl, ap, subst, arith, le_refl}
use Rattle.std.specs.Prelude.{slice_get, All}
use Rattle.activations.specs.declared.abrupt.Abrupt.TheVariants.{Throws}
use Rattle.activations.specs.declared.abrupt.Raised.TheVariants.{Platform}
use Rattle.activations.specs.declared.here.Here.{Here}
use Rattle.apex_num.specs.declared.cell.Cell.TheVariants as C
use Rattle.apex_num.specs.declared.kind.LimitKind.TheVariants as K
use Rattle.apex_meaning.specs.Exceptions.{Kind, Nothing, BuiltIn, Declared}
use Rattle.platform_errors.specs.declared.thrown.Thrown.TheVariants.{NullObject}
use Rattle.save_measures.specs.Paid.{IsPaid}
use Rattle.txn_heap.specs.declared.thing.Value.{Value}
use Rattle.txn_heap.specs.declared.thing.Value.TheVariants.{Plain, Object}
use Rattle.typed_program.specs.declared.expr.Conversion.{Conversion}
use Rattle.value_operators.specs.Operators.{Calc, converted}
use Rattle.value_operators.specs.declared.calculated.Calculated.TheVariants.{Val, Fails}
use Rattle.stack_code.specs.Calls.{begin, call, call_by_kind, call_found, call_on, call_this, chain_or, instance_of, new_next, new_plain_next, prepare_next, starts_or, target, units_or}
use Rattle.stack_code.specs.Checked.{FineAt, IsChecked, IsFine, IsFineBlock, IsFineClass, IsFineCode, is_charging}
use Rattle.stack_code.specs.Machine.{Next, Goes, charged, class_code, instrs_at, instrs_of, next, of_class, on_calc, on_truth, raise, some_code, with_handlers, with_local}
use Rattle.stack_code.specs.Steps.{both, each_item, either, jump, on_handler, open_each, opened, resume, unless}
use Rattle.stack_code.specs.declared.code.Instr.{Instr}
use Rattle.stack_code.specs.declared.code.Instr.TheVariants as I
use Rattle.stack_code.specs.declared.image.ClassCode.{ClassCode}
use Rattle.stack_code.specs.declared.image.Code.{Code}
use Rattle.stack_code.specs.declared.image.Image.{Image}
use Rattle.stack_code.specs.declared.image.MethodAt.{MethodAt}
use Rattle.stack_code.specs.declared.image.Starts.{Starts}
use Rattle.stack_code.specs.declared.state.After.{After}
use Rattle.stack_code.specs.declared.state.After.TheVariants as A
use Rattle.stack_code.specs.declared.state.BodyAt.{BodyAt}
use Rattle.stack_code.specs.declared.state.BodyAt.TheVariants as B
use Rattle.stack_code.specs.declared.state.Frame.{Frame}
use Rattle.stack_code.specs.declared.state.Handler.{Handler}
use Rattle.stack_code.specs.declared.state.Handler.TheVariants as H
use Rattle.stack_code.specs.declared.state.Waiting.{Waiting}
use Rattle.stack_code.specs.declared.state.World.{World}
use Rattle.program_weights.specs.Keeps.{AreOpen, AreWaiting, Falls}
use Rattle.program_weights.specs.Weights.{begins, begun, classes_full, fields_full, full, handlers_load, left, round}
use Rattle.program_weights.proofs.Codes.{all_at, charges_zero, free_at, full_some, later}
use Rattle.program_weights.proofs.Frames.{begin_falls, call_falls, many, prepare_falls, run}
use Rattle.program_weights.proofs.Places.{after, alloc_falls, goes_free, goes_paid, leaves_free, leaves_paid, next_free, raise_free, start, step_falls}
use Rattle.program_weights.proofs.Values.{Kept, running}

-- ---- what is known of a checked image

module _ (image : Image) (checked : IsChecked image) where
  pub class_fine : (c : ℕ) (k : ClassCode) → slice_get image.classes c ≡ Some k → IsFineClass (length image.classes) k
  class_fine c k e = all_at (IsFineClass (length image.classes)) image.classes c k checked.classes e

  -- in each body some instructions are fine
  abbrev IsFineSome : List Instr → Type 0
  IsFineSome is = (begins : Bool) × IsFine begins is

  none_fine : IsFineSome []
  none_fine = (false, λ pc i e. absurd (cc))

  codes_fine : (b : Bool) (cs : List Code) (n : ℕ) → All (IsFineCode b) cs → IsFineSome (instrs_of (slice_get cs n))
  codes_fine b cs n h = by_code (slice_get cs n) refl
    where
      by_code : (o : Option Code) → slice_get cs n ≡ o → IsFineSome (instrs_of o)
      by_code None e = none_fine
      by_code (Some c) e = (b, all_at (IsFineCode b) cs n c h e)

  of_class_fine : (c : ℕ) (f : ClassCode → Option Code) → ((k : ClassCode) → IsFineClass (length image.classes) k → IsFineSome (instrs_of (f k))) → IsFineSome (instrs_of (of_class f (class_code image c)))
  of_class_fine c f h = by_class (class_code image c) refl
    where
      by_class : (o : Option ClassCode) → class_code image c ≡ o → IsFineSome (instrs_of (of_class f o))
      by_class None e = none_fine
      by_class (Some k) e = h k (class_fine c k e)

  blocks_fine : (n : ℕ) (o : Option (Option Code)) → slice_get image.blocks n ≡ o → IsFineSome (instrs_of (some_code o))
  blocks_fine n None e = none_fine
  blocks_fine n (Some None) e = none_fine
  blocks_fine n (Some (Some c)) e = (false, all_at IsFineBlock image.blocks n (Some c) checked.blocks e)

  body_fine : (body : BodyAt) → IsFineSome (instrs_at image body)
  body_fine (B.Block n) = blocks_fine n (slice_get image.blocks n) refl
  body_fine (B.Method c m) = of_class_fine c (λ k. slice_get k.methods m) (λ k h. codes_fine false k.methods m h.methods)
  body_fine (B.Constructor c m) = of_class_fine c (λ k. slice_get k.constructors m) (λ k h. codes_fine true k.constructors m h.constructors)
  body_fine (B.Fields c) = of_class_fine c (λ k. Some k.field_values) (λ k h. (false, h.field_values))
  body_fine (B.Statics c) = of_class_fine c (λ k. Some k.static_values) (λ k h. (false, h.static_values))
  body_fine (B.Trigger n) = codes_fine false image.triggers n checked.triggers

  -- an instruction of a body is fine where it stands
  pub fine_at : (body : BodyAt) (pc : ℕ) (i : Instr) → slice_get (instrs_at image body) pc ≡ Some i → (b : Bool) × FineAt b (instrs_at image body) pc i
  fine_at body pc i e = let f = body_fine body in (f.0, f.1 pc i e)

  pub chain_few : (k : ℕ) → length (chain_or (class_code image k)) ≤ 33
  chain_few k = by_class (class_code image k) refl
    where
      by_class : (o : Option ClassCode) → class_code image k ≡ o → length (chain_or o) ≤ 33
      by_class None e = omega arith
      by_class (Some c) e = (class_fine k c e).chain

  pub chain_inside : (k : ℕ) → All (λ c. c < length image.classes) (chain_or (class_code image k))
  chain_inside k = by_class (class_code image k) refl
    where
      by_class : (o : Option ClassCode) → class_code image k ≡ o → All (λ c. c < length image.classes) (chain_or o)
      by_class None e = λ n d lt. absurd (omega arith)
      by_class (Some c) e = (class_fine k c e).inside

  pub units_some : (k : ℕ) → 32 ≤ units_or (class_code image k)
  units_some k = by_class (class_code image k) refl
    where
      by_class : (o : Option ClassCode) → class_code image k ≡ o → 32 ≤ units_or o
      by_class None e = le_refl 32
      by_class (Some c) e = (class_fine k c e).units

  pub starts_few : (k : ℕ) → length (starts_or k (class_code image k)).fields ≤ 34
  starts_few k = by_class (class_code image k) refl
    where
      by_class : (o : Option ClassCode) → class_code image k ≡ o → length (starts_or k o).fields ≤ 34
      by_class None e = omega arith
      by_class (Some c) e = (class_fine k c e).begun

-- the initial values of fields weigh less than all bodies
full_grows : (k : ℕ) (is : List Instr) → full 0 is ≤ full k is
full_grows k [] = le_refl 8
full_grows k (i ∷ is) =
    let r = full_grows k is in
    let b = one k i in omega arith
  where
    one : (n : ℕ) (j : Instr) → begins 0 j ≤ begins n j
    one n (I.Begin ss) = omega arith
    one n _ = le_refl 0

fields_below : (k : ℕ) (cs : List ClassCode) → fields_full cs ≤ classes_full k cs
fields_below k [] = le_refl 0
fields_below k (c ∷ cs) =
    let r = fields_below k cs in
    let f = full_grows k c.field_values.instrs in omega arith

-- ---- instructions

module _ (image : Image) (checked : IsChecked image) (body : BodyAt) (pc : ℕ) (hs : List Handler) (ws : List Waiting) (w0 : World) (a : AreWaiting image ws) (o : AreOpen (instrs_at image body) hs) (paid : IsPaid w0.txn) where
  abbrev instrs : List Instr
  instrs = instrs_at image body

  abbrev N : ℕ
  N = start image checked body pc hs ws w0 a

  kept : Kept image (left image w0) w0
  kept = (paid, le_refl (left image w0))

  -- ---- jumps

  jump_falls : (i : Instr) → slice_get instrs pc ≡ Some i → is_charging i ≡ false → (n : ℕ) (here : Here) (s stack : List Value) → Falls image N (jump n (running body pc hs ws here s w0) stack)
  jump_falls i e f n here s stack = goes_free image checked body pc hs ws w0 a i e f (pc + 1 + n) (omega arith) hs o (omega arith) here stack w0 kept

  next_falls : (i : Instr) → slice_get instrs pc ≡ Some i → is_charging i ≡ false → (here : Here) (s stack : List Value) → Falls image N (next (running body pc hs ws here s w0) stack)
  next_falls i e f here s stack = next_free image checked body pc hs ws w0 a o i e f here s stack w0 kept

  pub plain_jump_falls : (n : ℕ) → slice_get instrs pc ≡ Some (I.Jump n) → (here : Here) (s : List Value) → Falls image N (jump n (running body pc hs ws here s w0) s)
  plain_jump_falls n e here s = jump_falls (I.Jump n) e refl n here s s

  truth_or : (i : Instr) → slice_get instrs pc ≡ Some i → is_charging i ≡ false → (t : Option Bool) (here : Here) (s : List Value) (go : Bool → Next) → ((b : Bool) → Falls image N (go b)) → Falls image N (on_truth t (running body pc hs ws here s w0) go)
  truth_or i e f None here s go h = raise_free image checked body pc hs ws w0 a o i e f NullObject here s w0 kept
  truth_or i e f (Some b) here s go h = h b

  unless_chosen : (n : ℕ) → slice_get instrs pc ≡ Some (I.Unless n) → (here : Here) (s stack : List Value) (b : Bool) → Falls image N (unless n (running body pc hs ws here s w0) stack b)
  unless_chosen n e here s stack true = next_falls (I.Unless n) e refl here s stack
  unless_chosen n e here s stack false = jump_falls (I.Unless n) e refl n here s stack

  pub unless_falls : (n : ℕ) → slice_get instrs pc ≡ Some (I.Unless n) → (t : Option Bool) (here : Here) (s stack : List Value) → Falls image N (on_truth t (running body pc hs ws here s w0) (unless n (running body pc hs ws here s w0) stack))
  unless_falls n e t here s stack = truth_or (I.Unless n) e refl t here s (unless n (running body pc hs ws here s w0) stack) (unless_chosen n e here s stack)

  both_chosen : (n : ℕ) → slice_get instrs pc ≡ Some (I.Both n) → (here : Here) (s stack : List Value) (b : Bool) → Falls image N (both n (running body pc hs ws here s w0) stack b)
  both_chosen n e here s stack true = next_falls (I.Both n) e refl here s stack
  both_chosen n e here s stack false = jump_falls (I.Both n) e refl n here s (Plain (C.Bool false) ∷ stack)

  pub both_falls : (n : ℕ) → slice_get instrs pc ≡ Some (I.Both n) → (t : Option Bool) (here : Here) (s stack : List Value) → Falls image N (on_truth t (running body pc hs ws here s w0) (both n (running body pc hs ws here s w0) stack))
  both_falls n e t here s stack = truth_or (I.Both n) e refl t here s (both n (running body pc hs ws here s w0) stack) (both_chosen n e here s stack)

  either_chosen : (n : ℕ) → slice_get instrs pc ≡ Some (I.Either n) → (here : Here) (s stack : List Value) (b : Bool) → Falls image N (either n (running body pc hs ws here s w0) stack b)
  either_chosen n e here s stack true = jump_falls (I.Either n) e refl n here s (Plain (C.Bool true) ∷ stack)
  either_chosen n e here s stack false = next_falls (I.Either n) e refl here s stack

  pub either_falls : (n : ℕ) → slice_get instrs pc ≡ Some (I.Either n) → (t : Option Bool) (here : Here) (s stack : List Value) → Falls image N (on_truth t (running body pc hs ws here s w0) (either n (running body pc hs ws here s w0) stack))
  either_falls n e t here s stack = truth_or (I.Either n) e refl t here s (either n (running body pc hs ws here s w0) stack) (either_chosen n e here s stack)

  -- back, where a step is charged
  pub back_falls : (n : ℕ) → slice_get instrs pc ≡ Some (I.Back n) → (here : Here) (s : List Value) → Falls image N (Goes (running body (pc - n) hs ws here s w0))
  back_falls n e here s =
      let f = (fine_at image checked body pc (I.Back n) e).1 in
      let z = charges_zero (begun image) (pc - n) instrs f.1 in
      let x = free_at (begun image) pc instrs (I.Back n) e refl in
      let y = full_some (begun image) (drop (pc + 1) instrs) in
      (record { checked = checked; top = o; below = a; paid = paid }, omega arith)

  -- ---- what is opened

  opened_falls : (i : Instr) → slice_get instrs pc ≡ Some i → is_charging i ≡ false → (h : Handler) → AreOpen instrs (h ∷ hs) → handlers_load image instrs (h ∷ hs) ≤ handlers_load image instrs hs + (2 * after image checked body pc hs ws w0 a + 1) →
      (here : Here) (s stack : List Value) → Falls image N (opened h (running body pc hs ws here s w0) stack)
  opened_falls i e f h q few here s stack = goes_free image checked body pc hs ws w0 a i e f (pc + 1) (le_refl (pc + 1)) (h ∷ hs) q few here stack w0 kept

  pub catch_falls : (cs : _) → slice_get instrs pc ≡ Some (I.OpenCatch cs) → (here : Here) (s : List Value) → Falls image N (opened (H.Catches pc) (running body pc hs ws here s w0) s)
  catch_falls cs e here s = opened_falls (I.OpenCatch cs) e refl (H.Catches pc) (tt, o) (omega arith) here s s

  pub last_falls : (n : ℕ) → slice_get instrs pc ≡ Some (I.OpenLast n) → (here : Here) (s : List Value) → Falls image N (opened (H.Lasts (pc + 1 + n)) (running body pc hs ws here s w0) s)
  last_falls n e here s =
      let x = later (begun image) (pc + 1) (pc + 1 + n) instrs (omega arith) in
      opened_falls (I.OpenLast n) e refl (H.Lasts (pc + 1 + n)) (tt, o) (omega arith) here s s

  pub loop_falls : (again out : ℕ) → slice_get instrs pc ≡ Some (I.OpenLoop again out) → (here : Here) (s : List Value) → Falls image N (opened (H.Loops (pc + 1 + again) (pc + 1 + out)) (running body pc hs ws here s w0) s)
  loop_falls again out e here s =
      let x = later (begun image) (pc + 1) (pc + 1 + again) instrs (omega arith) in
      let y = later (begun image) (pc + 1) (pc + 1 + out) instrs (omega arith) in
      opened_falls (I.OpenLoop again out) e refl (H.Loops (pc + 1 + again) (pc + 1 + out)) (tt, o) (omega arith) here s s

  pub open_each_falls : (again out : ℕ) → slice_get instrs pc ≡ Some (I.OpenEach again out) → (items : Option (List Value)) (here : Here) (s stack : List Value) → Falls image N (open_each items again out (running body pc hs ws here s w0) stack)
  open_each_falls again out e None here s stack = raise_free image checked body pc hs ws w0 a o (I.OpenEach again out) e refl NullObject here s w0 kept
  open_each_falls again out e (Some items) here s stack =
      let y = later (begun image) (pc + 1) (pc + 1 + out) instrs (omega arith) in
      let f = (fine_at image checked body pc (I.OpenEach again out) e).1 in
      opened_falls (I.OpenEach again out) e refl (H.Each items (pc + 1 + again) (pc + 1 + out)) (f.0, o) (omega arith) here s stack

  -- ---- steps that are charged

  pub charge_falls : (here : Here) (s : List Value) → Falls image N (charged K.Steps 1 (running body pc hs ws here s w0) (λ d. next d d.top.stack))
  charge_falls here s =
      step_falls image body pc hs ws N here s w0 (λ d. next d d.top.stack) paid (λ v p less. goes_paid image checked body pc hs ws w0 a (pc + 1) hs o (omega arith) here s v p less)

  -- the next item
  item_calc : (r : Calc) (slot : ℕ) (gs : List Handler) → AreOpen instrs gs → handlers_load image instrs gs ≤ handlers_load image instrs hs + 1 → (here : Here) (s : List Value) (v : World) → IsPaid v.txn → left image v + 1 ≤ left image w0 →
      Falls image N (on_calc r (running body pc gs ws here s v) (λ x. next (with_local (running body pc gs ws here s v) slot x) s))
  item_calc (Val x) slot gs q few here s v p less = goes_paid image checked body pc hs ws w0 a (pc + 1) gs q few _ s v p less
  item_calc (Fails t) slot gs q few here s v p less = leaves_paid image checked body pc hs ws w0 a gs q few (Throws (Platform t)) pc here [] v p less

  pub each_falls : (slot : ℕ) (how : Conversion) (out : ℕ) (here : Here) (s : List Value) →
      Falls image N (charged K.Steps 1 (running body pc hs ws here s w0) (λ d. on_handler d.top.handlers (λ h gs. each_item slot how out h gs d)))
  each_falls slot how out here s =
      step_falls image body pc hs ws N here s w0 (λ d. on_handler d.top.handlers (λ h gs. each_item slot how out h gs d)) paid (λ v p less. by_handler hs refl v p less)
    where
      out_falls : (v : World) → IsPaid v.txn → left image v + 1 ≤ left image w0 → Falls image N (jump out (running body pc hs ws here s v) s)
      out_falls v p less = goes_paid image checked body pc hs ws w0 a (pc + 1 + out) hs o (omega arith) here s v p less

      by_handler : (gs : List Handler) → hs ≡ gs → (v : World) → IsPaid v.txn → left image v + 1 ≤ left image w0 → Falls image N (on_handler gs (λ h rest. each_item slot how out h rest (running body pc hs ws here s v)))
      by_handler [] e v p less = out_falls v p less
      by_handler (H.Each [] again end ∷ gs) e v p less = out_falls v p less
      by_handler (H.Each (x ∷ xs) again end ∷ gs) e v p less =
          let q : AreOpen instrs (H.Each (x ∷ xs) again end ∷ gs) = subst (AreOpen instrs) e o in
          let l : handlers_load image instrs hs ≡ handlers_load image instrs (H.Each (x ∷ xs) again end ∷ gs) = ap (handlers_load image instrs) e in
          item_calc (converted how x) slot (H.Each xs again end ∷ gs) q (omega arith) here s v p less
      by_handler (H.Catches k ∷ gs) e v p less = out_falls v p less
      by_handler (H.Lasts k ∷ gs) e v p less = out_falls v p less
      by_handler (H.Held why ∷ gs) e v p less = out_falls v p less
      by_handler (H.Loops k j ∷ gs) e v p less = out_falls v p less

  -- ---- what is closed

  close_over : (i : Instr) → slice_get instrs pc ≡ Some i → is_charging i ≡ false → (gs : List Handler) → AreOpen instrs gs → handlers_load image instrs gs ≤ handlers_load image instrs hs + 1 → (here : Here) (s : List Value) → Falls image N (Goes (running body (pc + 1) gs ws here s w0))
  close_over i e f gs q few here s = goes_free image checked body pc hs ws w0 a i e f (pc + 1) (le_refl (pc + 1)) gs q (omega arith) here s w0 kept

  pub close_falls : slice_get instrs pc ≡ Some I.Close → (gs : List Handler) → hs ≡ gs → (here : Here) (s : List Value) → Falls image N (on_handler gs (λ h rest. next (with_handlers (running body pc hs ws here s w0) rest) s))
  close_falls e [] g here s = close_over I.Close e refl [] tt (omega arith) here s
  close_falls e (h ∷ gs) g here s =
      let q : AreOpen instrs (h ∷ gs) = subst (AreOpen instrs) g o in
      let l : handlers_load image instrs hs ≡ handlers_load image instrs (h ∷ gs) = ap (handlers_load image instrs) g in
      close_over I.Close e refl gs q.1 (omega arith) here s

  pub hold_falls : slice_get instrs pc ≡ Some I.Hold → (gs : List Handler) → hs ≡ gs → (here : Here) (s : List Value) → Falls image N (on_handler gs (λ h rest. next (with_handlers (running body pc hs ws here s w0) (H.Held None ∷ rest)) s))
  hold_falls e [] g here s = close_over I.Hold e refl (H.Held None ∷ []) (tt, tt) (omega arith) here s
  hold_falls e (h ∷ gs) g here s =
      let q : AreOpen instrs (h ∷ gs) = subst (AreOpen instrs) g o in
      let l : handlers_load image instrs hs ≡ handlers_load image instrs (h ∷ gs) = ap (handlers_load image instrs) g in
      close_over I.Hold e refl (H.Held None ∷ gs) (tt, q.1) (omega arith) here s

  resumed : slice_get instrs pc ≡ Some I.Resume → (h : Handler) (gs : List Handler) → AreOpen instrs gs → handlers_load image instrs gs ≤ handlers_load image instrs hs + 1 → (here : Here) (s : List Value) → Falls image N (resume h gs (running body pc hs ws here s w0))
  resumed e (H.Held (Some why)) gs q few here s = leaves_free image checked body pc hs ws w0 a I.Resume e refl gs q (omega arith) why pc here [] w0 kept
  resumed e (H.Held None) gs q few here s = close_over I.Resume e refl gs q few here s
  resumed e (H.Catches k) gs q few here s = close_over I.Resume e refl gs q few here s
  resumed e (H.Lasts k) gs q few here s = close_over I.Resume e refl gs q few here s
  resumed e (H.Loops k j) gs q few here s = close_over I.Resume e refl gs q few here s
  resumed e (H.Each xs k j) gs q few here s = close_over I.Resume e refl gs q few here s

  pub resume_falls : slice_get instrs pc ≡ Some I.Resume → (gs : List Handler) → hs ≡ gs → (here : Here) (s : List Value) → Falls image N (on_handler gs (λ h rest. resume h rest (running body pc hs ws here s w0)))
  resume_falls e [] g here s = resumed e (H.Held None) [] tt (omega arith) here s
  resume_falls e (h ∷ gs) g here s =
      let q : AreOpen instrs (h ∷ gs) = subst (AreOpen instrs) g o in
      let l : handlers_load image instrs hs ≡ handlers_load image instrs (h ∷ gs) = ap (handlers_load image instrs) g in
      resumed e h gs q.1 (omega arith) here s

  -- ---- calls

  -- the frame that calls, at its next place
  abbrev behind : Here → List Value → Frame
  behind here stack = record { body = body; pc = pc + 1; here = here; stack = stack; handlers = hs }

  pub called_falls : (i : Instr) → slice_get instrs pc ≡ Some i → is_charging i ≡ false → (to : BodyAt) (args : List Value) (this : Value) (then : After) (caller here : Here) (stack : List Value) → Falls image N (call image to args this then caller (run (behind here stack) ws w0))
  called_falls i e f to args this then caller here stack =
      let x = free_at (begun image) pc instrs i e f in
      let y = later (begun image) (pc + 1) (pc + 1) instrs (le_refl (pc + 1)) in
      call_falls image checked N to args this then caller (behind here stack) ws w0 o a paid (omega arith)

  -- a state that stands at the next place throws
  thrown_falls : (i : Instr) → slice_get instrs pc ≡ Some i → is_charging i ≡ false → (here : Here) (stack : List Value) → Falls image N (raise NullObject (run (behind here stack) ws w0))
  thrown_falls i e f here stack = leaves_free image checked body pc hs ws w0 a i e f hs o (omega arith) (Throws (Platform NullObject)) (pc + 1) here [] w0 kept

  pub call_this_falls : (i : Instr) → slice_get instrs pc ≡ Some i → is_charging i ≡ false → (k m : ℕ) (args : List Value) (this : Value) (here : Here) (stack : List Value) → Falls image N (call_this image k m args this (run (behind here stack) ws w0))
  call_this_falls i e f k m args (Plain cell) here stack = thrown_falls i e f here stack
  call_this_falls i e f k m args (Object r) here stack = called_falls i e f (B.Method k m) args (Object r) A.Answered here here stack

  found_falls : (i : Instr) → slice_get instrs pc ≡ Some i → is_charging i ≡ false → (t : Option MethodAt) (args : List Value) (this : Value) (here : Here) (stack : List Value) → Falls image N (call_found image t args this (run (behind here stack) ws w0))
  found_falls i e f None args this here stack = thrown_falls i e f here stack
  found_falls i e f (Some t) args this here stack = called_falls i e f (B.Method t.class t.place) args this A.Answered here here stack

  by_kind_falls : (i : Instr) → slice_get instrs pc ≡ Some i → is_charging i ≡ false → (k m : ℕ) (kind : Kind) (args : List Value) (this : Value) (here : Here) (stack : List Value) → Falls image N (call_by_kind image k m kind args this (run (behind here stack) ws w0))
  by_kind_falls i e f k m (Declared own) args this here stack = found_falls i e f (target image own k m) args this here stack
  by_kind_falls i e f k m (BuiltIn c) args this here stack = thrown_falls i e f here stack
  by_kind_falls i e f k m Nothing args this here stack = thrown_falls i e f here stack

  pub call_on_falls : (i : Instr) → slice_get instrs pc ≡ Some i → is_charging i ≡ false → (k m : ℕ) (args : List Value) (this : Value) (here : Here) (stack : List Value) → Falls image N (call_on image k m args this (run (behind here stack) ws w0))
  call_on_falls i e f k m args (Plain cell) here stack = thrown_falls i e f here stack
  call_on_falls i e f k m args (Object r) here stack = by_kind_falls i e f k m _ args (Object r) here stack

  -- ---- new instances

  -- the world behind an instance that is made
  abbrev with_instance : ℕ → World → World
  with_instance k v = record v { heap = v.heap ++ instance_of image k ∷ [] }

  pub new_falls : (k place : ℕ) (n : ℕ) → slice_get instrs pc ≡ Some (I.New k place n) → (args stack : List Value) (here : Here) (s : List Value) → Falls image N (new_next image k place args stack (running body pc hs ws here s w0))
  new_falls k place n e args stack here s =
      let u = units_some image checked k in
      let x = free_at (begun image) pc instrs (I.New k place n) e refl in
      let y = later (begun image) (pc + 1) (pc + 1) instrs (le_refl (pc + 1)) in
      alloc_falls image body pc hs ws N (units_or (class_code image k)) here s w0 _ paid (λ v p less.
      let z = many (units_or (class_code image k)) (left image v) (left image w0) (round image) less in
      call_falls image checked N (B.Constructor k place) args (Object (record { place = length v.heap })) A.Constructed here (behind here (Object (record { place = length v.heap }) ∷ stack)) ws (with_instance k v) o a p (omega arith))

  pub new_plain_falls : (k : ℕ) → slice_get instrs pc ≡ Some (I.NewPlain k) → (stack : List Value) (here : Here) (s : List Value) → Falls image N (new_plain_next image k stack (running body pc hs ws here s w0))
  new_plain_falls k e stack here s =
      let u = units_some image checked k in
      let g = starts_few image checked k in
      let b = fields_below (begun image) image.classes in
      let x = free_at (begun image) pc instrs (I.NewPlain k) e refl in
      let y = later (begun image) (pc + 1) (pc + 1) instrs (le_refl (pc + 1)) in
      alloc_falls image body pc hs ws N (units_or (class_code image k)) here s w0 _ paid (λ v p less.
      let z = many 32 (left image v) (left image w0) (round image) (omega arith) in
      begin_falls image checked N (starts_or k (class_code image k)).declared (starts_or k (class_code image k)).fields (Object (record { place = length v.heap })) here (behind here (Object (record { place = length v.heap }) ∷ stack)) ws (with_instance k v) o a p g (omega arith))

  pub begin_at_falls : (ss : Starts) → slice_get instrs pc ≡ Some (I.Begin ss) → (here : Here) (s : List Value) → Falls image N (begin image ss here.this (run (behind here s) ws w0))
  begin_at_falls ss e here s =
      let x = free_at (begun image) pc instrs (I.Begin ss) e refl in
      let y = later (begun image) (pc + 1) (pc + 1) instrs (le_refl (pc + 1)) in
      let z = full_some (begun image) (drop (pc + 1) instrs) in
      let f = (fine_at image checked body pc (I.Begin ss) e).1 in
      begin_falls image checked N ss.declared ss.fields here.this here (behind here s) ws w0 o a paid f.1 (omega arith)

  pub prepare_at_falls : (k : ℕ) → slice_get instrs pc ≡ Some (I.Prepare k) → (here : Here) (s : List Value) → Falls image N (prepare_next image k (running body pc hs ws here s w0))
  prepare_at_falls k e here s =
      let x = free_at (begun image) pc instrs (I.Prepare k) e refl in
      let y = later (begun image) (pc + 1) (pc + 1) instrs (le_refl (pc + 1)) in
      let z = full_some (begun image) (drop (pc + 1) instrs) in
      prepare_falls image checked N (chain_or (class_code image k)) here (behind here s) ws w0 (chain_few image checked k) (chain_inside image checked k) o a paid (omega arith)
