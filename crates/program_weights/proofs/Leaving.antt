-- Code that is left takes the weight down: handler by handler, and frame by frame.
use Rattle.std.proofs.Common.{◌≡◌, ℕ, ◌+◌, ◌-◌, ◌*◌, ◌≤◌, List, [], ◌∷◌, Option, Some, None, refl, ap, arith}
use Rattle.std.specs.Prelude.{slice_get}
use Rattle.activations.specs.declared.abrupt.Abrupt.{Abrupt}
use Rattle.activations.specs.declared.abrupt.Abrupt.TheVariants.{Throws, Returns, Breaks, Continues}
use Rattle.activations.specs.declared.abrupt.Raised.{Raised}
use Rattle.activations.specs.declared.abrupt.Raised.TheVariants.{Platform, Made}
use Rattle.activations.specs.declared.here.Here.{Here}
use Rattle.apex_num.specs.declared.kind.LimitKind.TheVariants.{Calls, Depth}
use Rattle.apex_meaning.specs.Exceptions.{kind_of}
use Rattle.limit_meter.specs.Charges.{count_of}
use Rattle.save_meaning.specs.Sites.{Site}
use Rattle.save_measures.specs.Paid.{IsPaid}
use Rattle.trigger_things.specs.Lefts.{closed as closed_records}
use Rattle.txn_heap.specs.declared.thing.Value.{Value}
use Rattle.stack_code.specs.Checked.{IsChecked}
use Rattle.stack_code.specs.Machine.{Goes, closed, instrs_at}
use Rattle.stack_code.specs.Steps.{caught, caught_at, caught_by, clause_for, handed, leaving, left_by, left_to, met}
use Rattle.stack_code.specs.declared.code.Instr.{Instr}
use Rattle.stack_code.specs.declared.code.Instr.TheVariants as I
use Rattle.stack_code.specs.declared.image.Clause.{Clause}
use Rattle.stack_code.specs.declared.image.Image.{Image}
use Rattle.stack_code.specs.declared.state.After.{After}
use Rattle.stack_code.specs.declared.state.After.TheVariants as A
use Rattle.stack_code.specs.declared.state.BodyAt.{BodyAt}
use Rattle.stack_code.specs.declared.state.Config.{Config}
use Rattle.stack_code.specs.declared.state.Firing.{Firing}
use Rattle.stack_code.specs.declared.state.Frame.{Frame}
use Rattle.stack_code.specs.declared.state.Handler.{Handler}
use Rattle.stack_code.specs.declared.state.Handler.TheVariants as H
use Rattle.stack_code.specs.declared.state.Mode.TheVariants as M
use Rattle.stack_code.specs.declared.state.Waiting.{Waiting}
use Rattle.stack_code.specs.declared.state.World.{World}
use Rattle.program_weights.specs.Keeps.{AreOpen, AreWaiting, Falls}
use Rattle.program_weights.specs.Weights.{at, begun, handler_load, handlers_load, left, round, waiting_load}
use Rattle.program_weights.proofs.Codes.{charges_zero, later}
use Rattle.program_weights.proofs.Lefts.{counter_left, counter_paid, leaves_calls, leaves_depth, with_counter}
use Rattle.program_weights.proofs.Places.{leaves}
use Rattle.program_weights.proofs.Values.{running}

module _ (site : Site) (image : Image) (checked : IsChecked image) (body : BodyAt) (ws : List Waiting) (a : AreWaiting image ws) where
  abbrev instrs : List Instr
  instrs = instrs_at image body

  -- the weight of code that is left with these handlers
  abbrev from : List Handler → World → ℕ
  from hs w = left image w * round image + ((handlers_load image instrs hs + 1) + waiting_load image ws)

  -- a handler that is passed over
  passed : (h : Handler) (hs : List Handler) → AreOpen instrs (h ∷ hs) → 1 ≤ handler_load image instrs h → (why : Abrupt) (pc : ℕ) (here : Here) (s : List Value) (w : World) → IsPaid w.txn → Falls image (from (h ∷ hs) w) (Goes (leaves body pc hs ws why here s w))
  passed h hs o some why pc here s w p = (record { checked = checked; top = o.1; below = a; paid = p }, omega arith)

  -- one that is met: the code at a place runs
  goes : (h : Handler) (hs gs : List Handler) (q : ℕ) → AreOpen instrs gs → at image instrs q + handlers_load image instrs gs ≤ handler_load image instrs h + handlers_load image instrs hs → (here : Here) (s : List Value) (w : World) → IsPaid w.txn →
      Falls image (from (h ∷ hs) w) (Goes (running body q gs ws here s w))
  goes h hs gs q o few here s w p = (record { checked = checked; top = o; below = a; paid = p }, omega arith)

  -- ---- what catches

  caught_at_falls : (at' slot q : ℕ) (hs : List Handler) → AreOpen instrs hs → at' + 1 ≤ q → (r : Raised) (pc : ℕ) (here : Here) (s : List Value) (w : World) → IsPaid w.txn →
      Falls image (from (H.Catches at' ∷ hs) w) (caught_at site image slot q r (leaves body pc hs ws (Throws r) here s w))
  caught_at_falls at' slot q hs o le (Made r) pc here s w p =
      let l = later (begun image) (at' + 1) q instrs le in goes (H.Catches at') hs hs q o (omega arith) _ [] w p
  caught_at_falls at' slot q hs o le (Platform t) pc here s w p =
      let l = later (begun image) (at' + 1) q instrs le in goes (H.Catches at') hs hs q o (omega arith) _ [] (record w { heap = _ }) p

  caught_by_falls : (at' : ℕ) (clause : Option Clause) (hs : List Handler) → AreOpen instrs hs → (r : Raised) (pc : ℕ) (here : Here) (s : List Value) (w : World) → IsPaid w.txn →
      Falls image (from (H.Catches at' ∷ hs) w) (caught_by site image clause at' r (leaves body pc hs ws (Throws r) here s w))
  caught_by_falls at' None hs o r pc here s w p = passed (H.Catches at') hs (tt, o) (omega arith) (Throws r) pc here [] w p
  caught_by_falls at' (Some c) hs o r pc here s w p = caught_at_falls at' c.slot (at' + 1 + c.target) hs o (omega arith) r pc here s w p

  caught_falls : (at' : ℕ) (i : Option Instr) (hs : List Handler) → AreOpen instrs hs → (r : Raised) (pc : ℕ) (here : Here) (s : List Value) (w : World) → IsPaid w.txn →
      Falls image (from (H.Catches at' ∷ hs) w) (caught site image i at' r (leaves body pc hs ws (Throws r) here s w))
  caught_falls at' (Some (I.OpenCatch clauses)) hs o r pc here s w p = caught_by_falls at' (clause_for site image (kind_of r w.heap) clauses) hs o r pc here s w p
  caught_falls at' _ hs o r pc here s w p = passed (H.Catches at') hs (tt, o) (omega arith) (Throws r) pc here [] w p

  -- ---- handlers

  met_falls : (h : Handler) (hs : List Handler) (why : Abrupt) → AreOpen instrs (h ∷ hs) → (pc : ℕ) (here : Here) (s : List Value) (w : World) → IsPaid w.txn →
      Falls image (from (h ∷ hs) w) (met site image h why hs (leaves body pc (h ∷ hs) ws why here s w))
  met_falls (H.Catches k) hs (Throws r) o pc here s w p = caught_falls k (slice_get instrs k) hs o.1 r pc here s w p
  met_falls (H.Catches k) hs (Returns v) o pc here s w p = passed (H.Catches k) hs o (omega arith) (Returns v) pc here [] w p
  met_falls (H.Catches k) hs Breaks o pc here s w p = passed (H.Catches k) hs o (omega arith) Breaks pc here [] w p
  met_falls (H.Catches k) hs Continues o pc here s w p = passed (H.Catches k) hs o (omega arith) Continues pc here [] w p
  met_falls (H.Lasts k) hs why o pc here s w p = goes (H.Lasts k) hs (H.Held (Some why) ∷ hs) k (tt, o.1) (omega arith) here [] w p
  met_falls (H.Held h) hs why o pc here s w p = passed (H.Held h) hs o (omega arith) why pc here [] w p
  met_falls (H.Loops again out) hs Breaks o pc here s w p = goes (H.Loops again out) hs hs out o.1 (omega arith) here [] w p
  met_falls (H.Loops again out) hs Continues o pc here s w p = goes (H.Loops again out) hs hs again o.1 (omega arith) here [] w p
  met_falls (H.Loops again out) hs (Throws r) o pc here s w p = passed (H.Loops again out) hs o (omega arith) (Throws r) pc here [] w p
  met_falls (H.Loops again out) hs (Returns v) o pc here s w p = passed (H.Loops again out) hs o (omega arith) (Returns v) pc here [] w p
  met_falls (H.Each items again out) hs Breaks o pc here s w p = goes (H.Each items again out) hs hs out o.1 (omega arith) here [] w p
  met_falls (H.Each items again out) hs Continues o pc here s w p =
      let z = charges_zero (begun image) again instrs o.0 in goes (H.Each items again out) hs (H.Each items again out ∷ hs) again o (omega arith) here [] w p
  met_falls (H.Each items again out) hs (Throws r) o pc here s w p = passed (H.Each items again out) hs o (omega arith) (Throws r) pc here [] w p
  met_falls (H.Each items again out) hs (Returns v) o pc here s w p = passed (H.Each items again out) hs o (omega arith) (Returns v) pc here [] w p

-- ---- frames

abbrev IsNoFiring : After → Type 0
IsNoFiring (A.Fired x) = ⊥
IsNoFiring _ = Unit {0}

module _ (site : Site) (image : Image) (checked : IsChecked image) where
  -- code of the frame that waits is left too
  thrown_on : (f : Frame) (then : After) (ws : List Waiting) → AreOpen (instrs_at image f.body) f.handlers → AreWaiting image ws → (r : Raised) (w v : World) → IsPaid v.txn → left image v ≡ left image w →
      Falls image (left image w * round image + ((0 + 1) + waiting_load image (record { frame = f; after = then } ∷ ws))) (Goes (record { top = f; mode = M.Leaving (Throws r); below = ws; world = v }))
  thrown_on f then ws o a r w v p e =
      let x : left image v * round image ≡ left image w * round image = ap (λ l. l * round image) e in (record { checked = checked; top = o; below = a; paid = p }, omega arith)

  -- it goes on
  given_on : (f : Frame) (then : After) (ws : List Waiting) → AreOpen (instrs_at image f.body) f.handlers → AreWaiting image ws → (s : List Value) (w v : World) → IsPaid v.txn → left image v ≡ left image w →
      Falls image (left image w * round image + ((0 + 1) + waiting_load image (record { frame = f; after = then } ∷ ws))) (Goes (record { top = record f { stack = s }; mode = M.Running; below = ws; world = v }))
  given_on f then ws o a s w v p e =
      let x : left image v * round image ≡ left image w * round image = ap (λ l. l * round image) e in (record { checked = checked; top = o; below = a; paid = p }, omega arith)

  -- a save goes on behind its trigger
  handed_on : (x : Firing) (f : Frame) (ws : List Waiting) → AreOpen (instrs_at image f.body) f.handlers → AreWaiting image ws → (why : Abrupt) (c : Config) → IsPaid c.world.txn →
      Falls image (left image c.world * round image + ((0 + 1) + waiting_load image (record { frame = f; after = A.Fired x } ∷ ws))) (Goes (handed site image x why (record { frame = f; after = A.Fired x }) ws c))
  handed_on x f ws o a why c p =
      let v : World = record (c.world) { heap = closed_records x.count x.first c.world.heap } in
      let e = counter_left image Depth leaves_depth (count_of v.txn.meter Depth - 1) v in
      let y : left image (with_counter Depth (count_of v.txn.meter Depth - 1) v) * round image ≡ left image c.world * round image = ap (λ l. l * round image) e in
      (record { checked = checked; top = o; below = a; paid = counter_paid Depth leaves_depth (count_of v.txn.meter Depth - 1) v p }, omega arith)

  -- a frame that runs no trigger is left to the one that waits
  thrown_by : (then : After) → IsNoFiring then → (f : Frame) (ws : List Waiting) → AreOpen (instrs_at image f.body) f.handlers → AreWaiting image ws → (r : Raised) (c : Config) → IsPaid c.world.txn →
      Falls image (left image c.world * round image + ((0 + 1) + waiting_load image (record { frame = f; after = then } ∷ ws))) (Goes (record (closed then c) { top = f; below = ws; mode = M.Leaving (Throws r) }))
  thrown_by A.Begun calls f ws o a r c p = thrown_on f A.Begun ws o a r c.world c.world p refl
  thrown_by A.Answered calls f ws o a r c p = thrown_on f A.Answered ws o a r c.world (with_counter Calls _ c.world) (counter_paid Calls leaves_calls _ c.world p) (counter_left image Calls leaves_calls _ c.world)
  thrown_by A.Constructed calls f ws o a r c p = thrown_on f A.Constructed ws o a r c.world (with_counter Calls _ c.world) (counter_paid Calls leaves_calls _ c.world p) (counter_left image Calls leaves_calls _ c.world)
  thrown_by (A.Fired x) calls f ws o a r c p = absurd calls

  given_by : (then : After) → IsNoFiring then → (f : Frame) (ws : List Waiting) → AreOpen (instrs_at image f.body) f.handlers → AreWaiting image ws → (s : List Value) (c : Config) → IsPaid c.world.txn →
      Falls image (left image c.world * round image + ((0 + 1) + waiting_load image (record { frame = f; after = then } ∷ ws))) (Goes (record (closed then c) { top = record f { stack = s }; below = ws; mode = M.Running }))
  given_by A.Begun calls f ws o a s c p = given_on f A.Begun ws o a s c.world c.world p refl
  given_by A.Answered calls f ws o a s c p = given_on f A.Answered ws o a s c.world (with_counter Calls _ c.world) (counter_paid Calls leaves_calls _ c.world p) (counter_left image Calls leaves_calls _ c.world)
  given_by A.Constructed calls f ws o a s c p = given_on f A.Constructed ws o a s c.world (with_counter Calls _ c.world) (counter_paid Calls leaves_calls _ c.world p) (counter_left image Calls leaves_calls _ c.world)
  given_by (A.Fired x) calls f ws o a s c p = absurd calls

  to_falls : (then : After) (f : Frame) (ws : List Waiting) → AreOpen (instrs_at image f.body) f.handlers → AreWaiting image ws → (why : Abrupt) (c : Config) → IsPaid c.world.txn →
      Falls image (left image c.world * round image + ((0 + 1) + waiting_load image (record { frame = f; after = then } ∷ ws))) (left_to site image then why (record { frame = f; after = then }) ws c)
  to_falls A.Answered f ws o a (Throws r) c p = thrown_by A.Answered tt f ws o a r c p
  to_falls A.Answered f ws o a (Returns v) c p = given_by A.Answered tt f ws o a _ c p
  to_falls A.Answered f ws o a Breaks c p = given_by A.Answered tt f ws o a _ c p
  to_falls A.Answered f ws o a Continues c p = given_by A.Answered tt f ws o a _ c p
  to_falls A.Constructed f ws o a (Throws r) c p = thrown_by A.Constructed tt f ws o a r c p
  to_falls A.Constructed f ws o a (Returns v) c p = given_by A.Constructed tt f ws o a _ c p
  to_falls A.Constructed f ws o a Breaks c p = given_by A.Constructed tt f ws o a _ c p
  to_falls A.Constructed f ws o a Continues c p = given_by A.Constructed tt f ws o a _ c p
  to_falls A.Begun f ws o a (Throws r) c p = thrown_by A.Begun tt f ws o a r c p
  to_falls A.Begun f ws o a (Returns v) c p = given_by A.Begun tt f ws o a _ c p
  to_falls A.Begun f ws o a Breaks c p = given_by A.Begun tt f ws o a _ c p
  to_falls A.Begun f ws o a Continues c p = given_by A.Begun tt f ws o a _ c p
  to_falls (A.Fired x) f ws o a why c p = handed_on x f ws o a why c p

  left_falls : (why : Abrupt) (below : List Waiting) → AreWaiting image below → (c : Config) → IsPaid c.world.txn → Falls image (left image c.world * round image + ((0 + 1) + waiting_load image below)) (left_by site image why below c)
  left_falls (Throws r) [] a c p = tt
  left_falls (Returns v) [] a c p = tt
  left_falls Breaks [] a c p = tt
  left_falls Continues [] a c p = tt
  left_falls (Throws r) (x ∷ ws) a c p = to_falls x.after x.frame ws a.0 a.1 (Throws r) c p
  left_falls (Returns v) (x ∷ ws) a c p = to_falls x.after x.frame ws a.0 a.1 (Returns v) c p
  left_falls Breaks (x ∷ ws) a c p = to_falls x.after x.frame ws a.0 a.1 Breaks c p
  left_falls Continues (x ∷ ws) a c p = to_falls x.after x.frame ws a.0 a.1 Continues c p

  -- code that is left
  pub leaving_falls : (why : Abrupt) (hs : List Handler) (body : BodyAt) (pc : ℕ) (ws : List Waiting) (here : Here) (s : List Value) (w : World) → AreOpen (instrs_at image body) hs → AreWaiting image ws → IsPaid w.txn →
      Falls image (left image w * round image + ((handlers_load image (instrs_at image body) hs + 1) + waiting_load image ws)) (leaving site image why hs (leaves body pc hs ws why here s w))
  leaving_falls why [] body pc ws here s w o a p = left_falls why ws a (leaves body pc [] ws why here s w) p
  leaving_falls why (h ∷ hs) body pc ws here s w o a p = met_falls site image checked body ws a h hs why o pc here s w p
