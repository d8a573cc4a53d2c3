-- From an instruction to the places where the machine goes on behind it, and to code that is left.
use Rattle.std.proofs.Common.{◌≡◌, ℕ, ◌+◌, ◌*◌, ◌≤◌, Bool, true, false, List, [], drop, Some, None, refl, arith, le_refl}
use Rattle.std.proofs.lemmas.Bool.{leb-true}
use Rattle.std.specs.Prelude.{leb, slice_get}
use Rattle.activations.specs.declared.abrupt.Abrupt.{Abrupt}
use Rattle.activations.specs.declared.abrupt.Abrupt.TheVariants.{Throws}
use Rattle.activations.specs.declared.abrupt.Raised.TheVariants.{Platform}
use Rattle.activations.specs.declared.here.Here.{Here}
use Rattle.apex_num.specs.declared.kind.LimitKind.TheVariants as K
use Rattle.limit_meter.specs.Charges.{count_of, limit_of}
use Rattle.platform_errors.specs.declared.thrown.Thrown.{Thrown}
use Rattle.save_measures.specs.Paid.{IsPaid}
use Rattle.txn_heap.specs.declared.thing.Value.{Value}
use Rattle.stack_code.specs.Checked.{IsChecked, is_charging}
use Rattle.stack_code.specs.Machine.{Next, Goes, charged, charged_if, instrs_at, next, raise}
use Rattle.stack_code.specs.declared.code.Instr.{Instr}
use Rattle.stack_code.specs.declared.image.Image.{Image}
use Rattle.stack_code.specs.declared.state.BodyAt.{BodyAt}
use Rattle.stack_code.specs.declared.state.Config.{Config}
use Rattle.stack_code.specs.declared.state.Handler.{Handler}
use Rattle.stack_code.specs.declared.state.Mode.TheVariants as M
use Rattle.stack_code.specs.declared.state.Waiting.{Waiting}
use Rattle.stack_code.specs.declared.state.World.{World}
use Rattle.program_weights.specs.Keeps.{AreOpen, AreWaiting, Falls}
use Rattle.program_weights.specs.Weights.{at, begun, full, handlers_load, left, round, waiting_load}
use Rattle.program_weights.proofs.Codes.{at_le, end_at, free_at, full_some, later}
use Rattle.program_weights.proofs.Frames.{once}
use Rattle.program_weights.proofs.Lefts.{alloc_left, charging, charged_paid, pays, step_left}
use Rattle.program_weights.proofs.Values.{Kept, running}

-- code of a frame is left
abbrev pub leaves : BodyAt → ℕ → List Handler → List Waiting → Abrupt → Here → List Value → World → Config
leaves body pc hs ws why here s w = record { top = record { body = body; pc = pc; here = here; stack = s; handlers = hs }; mode = M.Leaving why; below = ws; world = w }

-- ---- charges

module _ (image : Image) (body : BodyAt) (pc : ℕ) (hs : List Handler) (ws : List Waiting) (n : ℕ) where
  pub step_falls : (here : Here) (s : List Value) (w : World) (go : Config → Next) → IsPaid w.txn → ((v : World) → IsPaid v.txn → left image v + 1 ≤ left image w → Falls image n (go (running body pc hs ws here s v))) →
      Falls image n (charged K.Steps 1 (running body pc hs ws here s w) go)
  step_falls here s w go p h = by_room (leb (count_of w.txn.meter K.Steps + 1) (limit_of K.Steps)) refl
    where
      by_room : (b : Bool) → leb (count_of w.txn.meter K.Steps + 1) (limit_of K.Steps) ≡ b → Falls image n (charged_if b K.Steps 1 (running body pc hs ws here s w) go)
      by_room true e = h (charging K.Steps 1 w) (charged_paid K.Steps 1 w p) (step_left image w p (leb-true (count_of w.txn.meter K.Steps + 1) (limit_of K.Steps) e))
      by_room false e = tt

  pub alloc_falls : (units : ℕ) (here : Here) (s : List Value) (w : World) (go : Config → Next) → IsPaid w.txn → ((v : World) → IsPaid v.txn → left image v + units ≤ left image w → Falls image n (go (running body pc hs ws here s v))) →
      Falls image n (charged K.Alloc units (running body pc hs ws here s w) go)
  alloc_falls units here s w go p h = by_room (leb (count_of w.txn.meter K.Alloc + units) (limit_of K.Alloc)) refl
    where
      by_room : (b : Bool) → leb (count_of w.txn.meter K.Alloc + units) (limit_of K.Alloc) ≡ b → Falls image n (charged_if b K.Alloc units (running body pc hs ws here s w) go)
      by_room true e = h (charging K.Alloc units w) (charged_paid K.Alloc units w p) (alloc_left image units w p (leb-true (count_of w.txn.meter K.Alloc + units) (limit_of K.Alloc) e))
      by_room false e = tt

-- ---- places

module _ (image : Image) (checked : IsChecked image) (body : BodyAt) (pc : ℕ) (hs : List Handler) (ws : List Waiting) (w0 : World) (a : AreWaiting image ws) where
  abbrev pub code : List Instr
  code = instrs_at image body

  -- how what follows weighs
  abbrev pub after : ℕ
  after = full (begun image) (drop (pc + 1) code)

  -- the weight at the instruction
  abbrev pub start : ℕ
  start = left image w0 * round image + ((at image code pc + handlers_load image code hs) + waiting_load image ws)

  -- behind an instruction that charges nothing
  pub goes_free : (i : Instr) → slice_get code pc ≡ Some i → is_charging i ≡ false → (q : ℕ) → pc + 1 ≤ q → (gs : List Handler) → AreOpen code gs → handlers_load image code gs ≤ handlers_load image code hs + (2 * after + 1) →
      (here : Here) (s : List Value) (w : World) → Kept image (left image w0) w → Falls image start (Goes (running body q gs ws here s w))
  goes_free i e f q le gs o few here s w p =
      let x = free_at (begun image) pc code i e f in
      let y = later (begun image) (pc + 1) q code le in
      let z = full_some (begun image) (drop (pc + 1) code) in
      let b = p.1 in
      let c = pays 0 (left image w) (left image w0) (round image) ((at image code q + handlers_load image code gs) + waiting_load image ws) ((at image code pc + handlers_load image code hs) + waiting_load image ws) (omega arith) (omega arith) in
      (record { checked = checked; top = o; below = a; paid = p.0 }, c)

  pub leaves_free : (i : Instr) → slice_get code pc ≡ Some i → is_charging i ≡ false → (gs : List Handler) → AreOpen code gs → handlers_load image code gs ≤ handlers_load image code hs + (2 * after + 1) →
      (why : Abrupt) (q : ℕ) (here : Here) (s : List Value) (w : World) → Kept image (left image w0) w → Falls image start (Goes (leaves body q gs ws why here s w))
  leaves_free i e f gs o few why q here s w p =
      let x = free_at (begun image) pc code i e f in
      let z = full_some (begun image) (drop (pc + 1) code) in
      let b = p.1 in
      let c = pays 0 (left image w) (left image w0) (round image) ((handlers_load image code gs + 1) + waiting_load image ws) ((at image code pc + handlers_load image code hs) + waiting_load image ws) (omega arith) (omega arith) in
      (record { checked = checked; top = o; below = a; paid = p.0 }, c)

  -- behind the end of the code
  pub leaves_end : slice_get code pc ≡ None → (why : Abrupt) (here : Here) (s : List Value) → IsPaid w0.txn → Falls image start (Goes (leaves body pc [] ws why here s w0))
  leaves_end e why here s p =
      let x = end_at (begun image) pc code e in
      (record { checked = checked; top = tt; below = a; paid = p }, omega arith)

  -- behind one that charged a step
  pub goes_paid : (q : ℕ) (gs : List Handler) → AreOpen code gs → handlers_load image code gs ≤ handlers_load image code hs + 1 →
      (here : Here) (s : List Value) (w : World) → IsPaid w.txn → left image w + 1 ≤ left image w0 → Falls image start (Goes (running body q gs ws here s w))
  goes_paid q gs o few here s w p less =
      let x = at_le image body q in
      let y = once (left image w) (left image w0) (round image) less in
      (record { checked = checked; top = o; below = a; paid = p }, omega arith)

  pub leaves_paid : (gs : List Handler) → AreOpen code gs → handlers_load image code gs ≤ handlers_load image code hs + 1 →
      (why : Abrupt) (q : ℕ) (here : Here) (s : List Value) (w : World) → IsPaid w.txn → left image w + 1 ≤ left image w0 → Falls image start (Goes (leaves body q gs ws why here s w))
  leaves_paid gs o few why q here s w p less =
      let y = once (left image w) (left image w0) (round image) less in
      (record { checked = checked; top = o; below = a; paid = p }, omega arith)

  -- to the place behind, and to what is thrown
  pub next_free : AreOpen code hs → (i : Instr) → slice_get code pc ≡ Some i → is_charging i ≡ false → (here : Here) (s stack : List Value) (w : World) → Kept image (left image w0) w → Falls image start (next (running body pc hs ws here s w) stack)
  next_free o i e f here s stack w p = goes_free i e f (pc + 1) (le_refl (pc + 1)) hs o (omega arith) here stack w p

  pub raise_free : AreOpen code hs → (i : Instr) → slice_get code pc ≡ Some i → is_charging i ≡ false → (t : Thrown) (here : Here) (s : List Value) (w : World) → Kept image (left image w0) w → Falls image start (raise t (running body pc hs ws here s w))
  raise_free o i e f t here s w p = leaves_free i e f hs o (omega arith) (Throws (Platform t)) pc here [] w p
