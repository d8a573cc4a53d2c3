-- Frames that begin weigh less than what is charged for them, or than what their classes' preparation leaves less to do.
use Rattle.std.proofs.Common.{◌≡◌, ℕ, ◌+◌, ◌*◌, ◌<◌, ◌≤◌, Bool, true, false, cond, List, [], ◌∷◌, length, reverse, Option, Some, None, refl, arith, le_refl}
use Rattle.std.proofs.lemmas.Bool.{leb-true}
use Rattle.std.proofs.lemmas.List.{length-reverse}
use Rattle.std.proofs.lemmas.Nat.{mul-le}
use Rattle.std.specs.Prelude.{leb, All}
use Rattle.activations.specs.declared.here.Here.{Here}
use Rattle.request_states.specs.Values.{null}
use Rattle.apex_num.specs.declared.kind.LimitKind.TheVariants as K
use Rattle.apex_meaning.specs.Preparing.{unprepared}
use Rattle.limit_meter.specs.Charges.{count_of, limit_of}
use Rattle.save_measures.specs.Paid.{IsPaid}
use Rattle.txn_heap.specs.Statics.{is_prepared}
use Rattle.txn_heap.specs.declared.thing.Value.{Value}
use Rattle.stack_code.specs.Calls.{activation, call, declared_first, enter, enter_fields, enter_statics, marked}
use Rattle.stack_code.specs.Checked.{IsChecked}
use Rattle.stack_code.specs.Machine.{Goes, charged, charged_if, instrs_at}
use Rattle.stack_code.specs.declared.image.Image.{Image}
use Rattle.stack_code.specs.declared.image.MethodAt.{MethodAt}
use Rattle.stack_code.specs.declared.state.After.{After}
use Rattle.stack_code.specs.declared.state.After.TheVariants as A
use Rattle.stack_code.specs.declared.state.BodyAt.{BodyAt}
use Rattle.stack_code.specs.declared.state.BodyAt.TheVariants as B
use Rattle.stack_code.specs.declared.state.Config.{Config}
use Rattle.stack_code.specs.declared.state.Frame.{Frame}
use Rattle.stack_code.specs.declared.state.Mode.TheVariants as M
use Rattle.stack_code.specs.declared.state.Waiting.{Waiting}
use Rattle.stack_code.specs.declared.state.World.{World}
use Rattle.program_weights.specs.Keeps.{AreOpen, AreWaiting, Falls, Stands}
use Rattle.program_weights.specs.Weights.{after_load, begun, body_most, fields_full, frame_load, left, round, waiting_load}
use Rattle.program_weights.proofs.Codes.{at_le, field_values_le, later}
use Rattle.program_weights.proofs.Lefts.{charged_left, charged_paid, charging, marked_first, marked_further, step_left, unready_fewer}

-- a state that runs with these frames
abbrev pub run : Frame → List Waiting → World → Config
run top ws w = record { top = top; mode = M.Running; below = ws; world = w }

-- what frames may do
abbrev pub frames_load : Image → Frame → List Waiting → ℕ
frames_load image top ws = frame_load image top + waiting_load image ws

-- what waits for a frame weighs no more than one for that
pub after_small : (after : After) → after_load after ≤ 1
after_small A.Answered = omega arith
after_small A.Constructed = omega arith
after_small A.Begun = omega arith
after_small (A.Fired f) = omega arith

-- a round is paid for by each thing less that is left
pub once : (l m r : ℕ) → l + 1 ≤ m → l * r + r ≤ m * r
once l m r h =
    let p = mul-le (l + 1) r m r h (le_refl r) in
    let q : (l + 1) * r ≡ l * r + r = omega arith in omega arith

pub many : (j l m r : ℕ) → l + j ≤ m → l * r + j * r ≤ m * r
many j l m r h =
    let p = mul-le (l + j) r m r h (le_refl r) in
    let q : (l + j) * r ≡ l * r + j * r = omega arith in omega arith

module _ (image : Image) (checked : IsChecked image) where
  -- a state that runs stands, and its weight
  pub stands_there : (top : Frame) (ws : List Waiting) (w : World) → AreOpen (instrs_at image top.body) top.handlers → AreWaiting image ws → IsPaid w.txn → Stands image (run top ws w)
  stands_there top ws w o a p = record { checked = checked; top = o; below = a; paid = p }

  -- ---- frames of initial values

  -- what holds of each state with frames that weigh so much more holds behind frames that begin
  pub fields_entered : (ks : List ℕ) (this : Value) (caller : Here) (top : Frame) (ws : List Waiting) (w : World) (P : Config → Type 0) → AreOpen (instrs_at image top.body) top.handlers → AreWaiting image ws →
      ((t : Frame) (vs : List Waiting) → AreOpen (instrs_at image t.body) t.handlers → AreWaiting image vs → frames_load image t vs ≤ frames_load image top ws + length ks * (fields_full image.classes + 9) → P (run t vs w)) →
      P (enter_fields image ks this caller (run top ws w))
  fields_entered [] this caller top ws w P o a h = h top ws o a (omega arith)
  fields_entered (k ∷ ks) this caller top ws w P o a h =
      let f : Frame = record { body = B.Fields k; pc = 0; here = activation image (B.Fields k) [] this caller; stack = []; handlers = [] } in
      let g = field_values_le image checked k in
      let r = later (begun image) 0 0 (instrs_at image (B.Fields k)) (omega arith) in
      fields_entered ks this caller f (record { frame = top; after = A.Begun } ∷ ws) w P tt (o, a) (λ t vs p q lt. h t vs p q (omega arith))

  pub statics_entered : (ks : List ℕ) (caller : Here) (top : Frame) (ws : List Waiting) (w : World) (P : Config → Type 0) → AreOpen (instrs_at image top.body) top.handlers → AreWaiting image ws →
      ((t : Frame) (vs : List Waiting) → AreOpen (instrs_at image t.body) t.handlers → AreWaiting image vs → frames_load image t vs ≤ frames_load image top ws + length ks * body_most image → P (run t vs w)) →
      P (enter_statics image ks caller (run top ws w))
  statics_entered [] caller top ws w P o a h = h top ws o a (omega arith)
  statics_entered (k ∷ ks) caller top ws w P o a h =
      let f : Frame = record { body = B.Statics k; pc = 0; here = activation image (B.Statics k) [] null caller; stack = []; handlers = [] } in
      let r = at_le image (B.Statics k) 0 in
      statics_entered ks caller f (record { frame = top; after = A.Begun } ∷ ws) w P tt (o, a) (λ t vs p q lt. h t vs p q (omega arith))

  -- ---- calls

  -- a call charges a step
  pub call_falls : (n : ℕ) (body : BodyAt) (args : List Value) (this : Value) (after : After) (caller : Here) (top : Frame) (ws : List Waiting) (w : World) → AreOpen (instrs_at image top.body) top.handlers → AreWaiting image ws → IsPaid w.txn →
      left image w * round image + (frames_load image top ws + body_most image) < n + round image → Falls image n (call image body args this after caller (run top ws w))
  call_falls n body args this after caller top ws w o a p lt = by_calls (leb (count_of w.txn.meter K.Calls + 1) (limit_of K.Calls))
    where
      f : Frame
      f = record { body = body; pc = 0; here = activation image body args this caller; stack = []; handlers = [] }

      entered : (v : World) → IsPaid v.txn → left image v + 1 ≤ left image w → Falls image n (Goes (enter image body args this after caller (run top ws v)))
      entered v q le =
          let r = at_le image body 0 in
          let t = after_small after in
          let s = once (left image v) (left image w) (round image) le in
          (stands_there f (record { frame = top; after = after } ∷ ws) v tt (o, a) q, omega arith)

      by_steps : (v : World) → IsPaid v.txn → left image v ≤ left image w → (b : Bool) → leb (count_of v.txn.meter K.Steps + 1) (limit_of K.Steps) ≡ b →
          Falls image n (charged_if b K.Steps 1 (run top ws v) (λ e. Goes (enter image body args this after caller e)))
      by_steps v q le true e =
          let s = step_left image v q (leb-true (count_of v.txn.meter K.Steps + 1) (limit_of K.Steps) e) in
          entered (charging K.Steps 1 v) (charged_paid K.Steps 1 v q) (omega arith)
      by_steps v q le false e = tt

      by_calls : (b : Bool) → Falls image n (charged_if b K.Calls 1 (run top ws w) (λ d. charged K.Steps 1 d (λ e. Goes (enter image body args this after caller e))))
      by_calls true =
          by_steps (charging K.Calls 1 w) (charged_paid K.Calls 1 w p) (charged_left image K.Calls 1 w p) (leb (count_of (charging K.Calls 1 w).txn.meter K.Steps + 1) (limit_of K.Steps)) refl
      by_calls false = tt

  -- ---- what runs where a constructor isn't written

  declared_falls : (n : ℕ) (at' : Option MethodAt) (this : Value) (caller : Here) (top : Frame) (ws : List Waiting) (w : World) → AreOpen (instrs_at image top.body) top.handlers → AreWaiting image ws → IsPaid w.txn →
      left image w * round image + frames_load image top ws < n → Falls image n (declared_first image at' this caller (run top ws w))
  declared_falls n None this caller top ws w o a p lt = (stands_there top ws w o a p, lt)
  declared_falls n (Some c) this caller top ws w o a p lt =
      call_falls n (B.Constructor c.class c.place) [] this A.Constructed caller top ws w o a p (omega arith)

  pub begin_falls : (n : ℕ) (at' : Option MethodAt) (ks : List ℕ) (this : Value) (caller : Here) (top : Frame) (ws : List Waiting) (w : World) → AreOpen (instrs_at image top.body) top.handlers → AreWaiting image ws → IsPaid w.txn → length ks ≤ 34 →
      left image w * round image + (frames_load image top ws + 34 * (fields_full image.classes + 9)) < n → Falls image n (declared_first image at' this caller (enter_fields image (reverse ks) this caller (run top ws w)))
  begin_falls n at' ks this caller top ws w o a p few lt =
      let e = length-reverse ks in
      let le : length (reverse ks) ≤ 34 = omega arith in
      let q = mul-le (length (reverse ks)) (fields_full image.classes + 9) 34 (fields_full image.classes + 9) le (le_refl (fields_full image.classes + 9)) in
      fields_entered (reverse ks) this caller top ws w (λ c. Falls image n (declared_first image at' this caller c)) o a
      (λ t vs x y more. declared_falls n at' this caller t vs w x y p (omega arith))

  -- ---- classes are prepared

  -- the ancestors that aren't prepared are some of the chain
  unprepared_few : (statics : List (ℕ × List Value)) (cs : List ℕ) → length (unprepared statics cs) ≤ length cs
  unprepared_few statics [] = omega arith
  unprepared_few statics (c ∷ cs) = by_first (is_prepared c statics) (unprepared_few statics cs)
    where
      by_first : (b : Bool) → length (unprepared statics cs) ≤ length cs → length (cond b [] (c ∷ unprepared statics cs)) ≤ length (c ∷ cs)
      by_first true h = omega arith
      by_first false h = omega arith

  -- behind the marks of these
  abbrev behind : Image → List ℕ → World → World
  behind i ks w = record w { statics = marked i (reverse ks) w.statics }

  -- where classes are marked, one less is to be prepared, which pays for the initial values of their statics
  pub prepare_falls : (n : ℕ) (chain : List ℕ) (caller : Here) (top : Frame) (ws : List Waiting) (w : World) → length chain ≤ 33 → All (λ c. c < length image.classes) chain → AreOpen (instrs_at image top.body) top.handlers → AreWaiting image ws → IsPaid w.txn →
      left image w * round image + frames_load image top ws < n →
      Falls image n (Goes (enter_statics image (unprepared w.statics chain) caller (run top ws (record w { statics = marked image (reverse (unprepared w.statics chain)) w.statics }))))
  prepare_falls n [] caller top ws w few inside o a p lt = (stands_there top ws w o a p, lt)
  prepare_falls n (c ∷ cs) caller top ws w few inside o a p lt = by_first (is_prepared c w.statics) refl
    where
      by_first : (b : Bool) → is_prepared c w.statics ≡ b → Falls image n (Goes (enter_statics image (cond b [] (c ∷ unprepared w.statics cs)) caller (run top ws (behind image (cond b [] (c ∷ unprepared w.statics cs)) w))))
      by_first true e = (stands_there top ws w o a p, lt)
      by_first false e =
          let below : c < length image.classes = inside 0 c (omega arith) in
          let fewer = unready_fewer (length image.classes) c w.statics (marked image (reverse (c ∷ unprepared w.statics cs)) w.statics) below e (marked_first image c (unprepared w.statics cs) w.statics) (marked_further image (reverse (c ∷ unprepared w.statics cs)) w.statics) in
          let l : left image (behind image (c ∷ unprepared w.statics cs) w) + 1 ≤ left image w = omega arith in
          let s = once (left image (behind image (c ∷ unprepared w.statics cs) w)) (left image w) (round image) l in
          let u = unprepared_few w.statics cs in
          let q = mul-le (length (c ∷ unprepared w.statics cs)) (body_most image) 33 (body_most image) (omega arith) (le_refl (body_most image)) in
          statics_entered (c ∷ unprepared w.statics cs) caller top ws (behind image (c ∷ unprepared w.statics cs) w) (λ d. Falls image n (Goes d)) o a
          (λ t vs x y more. (stands_there t vs (behind image (c ∷ unprepared w.statics cs) w) x y p, omega arith))
