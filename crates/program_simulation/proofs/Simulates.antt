-- What the machine comes to is what code means: from a place it comes there if it does so from behind it.
use Rattle.std.proofs.Common.{◌≡◌, ℕ, suc, ◌+◌, ◌-◌, ◌≤◌, ◌<◌, Bool, true, false, cond, List, [], ◌∷◌, ◌++◌, drop, Some, refl, sym, ap, ◌∙◌, subst, append_assoc, arith}
use Rattle.std.specs.Prelude.{leb}
use Rattle.std.proofs.lemmas.List.{length-set}
use Rattle.activations.specs.declared.abrupt.Abrupt.{Abrupt}
use Rattle.activations.specs.declared.here.Here.{Here}
use Rattle.apex_num.specs.declared.kind.LimitKind.{LimitKind}
use Rattle.apex_num.specs.declared.kind.LimitKind.TheVariants.{Queries, Rows, Dml, Saved as Rows', Steps, Depth, Calls}
use Rattle.limit_meter.specs.Charges.{Charged, Left as Leaving, charged as charged_in, leaves, limit_of, counter, fits, count_of as count_in, with_count}
use Rattle.limit_meter.proofs.Counted.{counts_charge, counts_leave}
use Rattle.apex_rows.specs.declared.query.Answer.{Answer}
use Rattle.apex_requests.specs.declared.reply.Outcome.{Outcome}
use Rattle.apex_requests.specs.declared.reply.Outcome.TheVariants as O
use Rattle.tenant_trails.specs.Runs as Trail
use Rattle.txn_heap.specs.declared.thing.Value.{Value}
use Rattle.save_meaning.specs.Sites.{Site}
use Rattle.save_meaning.specs.Results.{Finish, Halts, Needs, Unfinished, Unbuilt, Stop, Leaves, Closes, bind, Holds}
use Rattle.save_meaning.specs.Transactions as Save
use Rattle.save_meaning.specs.declared.run.TxnState.{TxnState}
use Rattle.save_meaning.specs.MoveLaws.{Alike}
use Rattle.save_meaning.proofs.Holding.{bound, weaken}
use Rattle.row_meaning.specs.Overlays.{Overlay}
use Rattle.request_states.specs.Refusals.{no_writes, refusal, not_yet}
use Rattle.request_states.specs.States.{State, charge, keeps, unbuilt, with_heap}
use Rattle.trigger_things.specs.Lefts.{closed}
use Rattle.request_states.specs.Runs.{counts_of, ended}
use Rattle.apex_meaning.specs.Meanings.{Run, Behind, Do, Test}
use Rattle.stack_code.specs.Code.{unbuilt as unbuilt_code}
use Rattle.stack_code.specs.Machine.{Next, counts_in, reply_of, in_mode, instrs_at, charged_if, charged}
use Rattle.stack_code.specs.Runs.{drive, steps, Ends}
use Rattle.stack_code.specs.Steps.{act, step}
use Rattle.stack_code.specs.declared.code.Instr.{Instr}
use Rattle.stack_code.specs.declared.code.Instr.TheVariants as I
use Rattle.stack_code.specs.declared.image.Image.{Image}
use Rattle.stack_code.specs.declared.state.After.{After}
use Rattle.stack_code.specs.declared.state.After.TheVariants as A
use Rattle.stack_code.specs.declared.state.BodyAt.{BodyAt}
use Rattle.stack_code.specs.declared.state.Config.{Config}
use Rattle.stack_code.specs.declared.state.Frame.{Frame}
use Rattle.stack_code.specs.declared.state.Handler.{Handler}
use Rattle.stack_code.specs.declared.state.Mode.TheVariants as M
use Rattle.stack_code.specs.declared.state.Waiting.{Waiting}
use Rattle.stack_code.specs.declared.state.World.{World as WorldOf}
use Rattle.program_simulation.proofs.Fetch.{fetch, next, past}

pub keeping : Save.IsKept keeps
keeping = record { same = λ t s. refl; twice = λ t u s. refl; itself = λ s. refl }

-- ---- the state of the machine that stands for the evaluator's

abbrev pub world : State → TxnState → WorldOf
world st w = record { txn = w; heap = st.world.heap; statics = st.world.statics; debug = st.world.debug }

-- what lies under a frame: the frames that wait for it, and the overlays to which the saves of those that fired go back
pub record Under : Type 0 where
  pub frames : List Waiting
  pub saved : List Overlay

abbrev pub nothing_under : Under
nothing_under = record { frames = []; saved = [] }

-- one frame more waits
abbrev pub over : Waiting → Under → Under
over x u = record { frames = x ∷ u.frames; saved = u.saved }

-- what stays the same while code of a body runs: the body, what is open in it, and what lies under it
pub record Around : Type 0 where
  pub body : BodyAt
  pub handlers : List Handler
  pub below : Under

abbrev pub inside : Around → Handler → Around
inside a h = record { body = a.body; handlers = h ∷ a.handlers; below = a.below }

abbrev pub frame : Around → ℕ → List Value → Here → Frame
frame a pc temps here = record { body = a.body; pc = pc; here = here; stack = temps; handlers = a.handlers }

abbrev pub config : Around → ℕ → List Value → State → TxnState → Config
config a pc temps st w = record { top = frame a pc temps st.here; mode = M.Running; below = a.below.frames; world = world st w }

-- the instructions of its body
abbrev pub code : Image → Around → List Instr
code image a = instrs_at image a.body

-- the calls and the firings that are open while these frames wait
abbrev pub calls_of : After → ℕ
calls_of A.Begun = 0
calls_of (A.Fired f) = 0
calls_of _ = 1

abbrev pub calls_in : List Waiting → ℕ
calls_in [] = 0
calls_in (x ∷ xs) = calls_of x.after + calls_in xs

abbrev pub firings_of : After → ℕ
firings_of (A.Fired f) = 1
firings_of _ = 0

abbrev pub firings_in : List Waiting → ℕ
firings_in [] = 0
firings_in (x ∷ xs) = firings_of x.after + firings_in xs

-- the machine's counters are those of the charges, and each call and firing that is open was charged
pub record StandsFor (below : Under) (t : Save.Txn) (w : TxnState) : Type 0 where
  pub alike : Alike below.saved w t
  pub calls : calls_in below.frames ≤ count_in w.meter Calls
  pub firings : firings_in below.frames ≤ count_in w.meter Depth

abbrev pub Stands : Under → State → TxnState → Type 0
Stands below st w = StandsFor below st.world.txn w

-- of another state with the same transaction
pub stands_as : (below : Under) (st s : State) (w : TxnState) → s.world.txn ≡ st.world.txn → Stands below st w → Stands below s w
stands_as below st s w e a = record { alike = subst (λ t. Alike below.saved w t) (sym e) a.alike; calls = a.calls; firings = a.firings }

-- both count alike
pub same_counts : (saved : List Overlay) (t : Save.Txn) (w : TxnState) → Alike saved w t → counts_in w.meter ≡ counts_of t.charges
same_counts saved t w a =
    let e = a.counts.each in
    ap (λ (q : ℕ). record { queries = q; rows = count_in w.meter Rows; dml = count_in w.meter Dml; saved = count_in w.meter Rows'; steps = count_in w.meter Steps }) (e Queries)
    ∙ ap (λ (q : ℕ). record { queries = counter Queries t.charges; rows = q; dml = count_in w.meter Dml; saved = count_in w.meter Rows'; steps = count_in w.meter Steps }) (e Rows)
    ∙ ap (λ (q : ℕ). record { queries = counter Queries t.charges; rows = counter Rows t.charges; dml = q; saved = count_in w.meter Rows'; steps = count_in w.meter Steps }) (e Dml)
    ∙ ap (λ (q : ℕ). record { queries = counter Queries t.charges; rows = counter Rows t.charges; dml = counter Dml t.charges; saved = q; steps = count_in w.meter Steps }) (e Rows')
    ∙ ap (λ (q : ℕ). record { queries = counter Queries t.charges; rows = counter Rows t.charges; dml = counter Dml t.charges; saved = counter Rows' t.charges; steps = q }) (e Steps)

pub same_reply : (o : Outcome) (saved : List Overlay) (st : State) (w : TxnState) → Alike saved w st.world.txn → reply_of o (world st w) ≡ ended o st.world
same_reply o saved st w a = ap (λ c. record { outcome = o; debug = st.world.debug; counts = c; ops = 0 }) (same_counts saved st.world.txn w a)

-- ---- charges

-- behind a charge
abbrev pub paid : LimitKind → ℕ → State → State
paid k n st = record st { world = record (st.world) { txn = record (st.world.txn) { charges = Charged k n ∷ st.world.txn.charges } } }

abbrev pub spent : LimitKind → ℕ → TxnState → TxnState
spent k n w = record w { meter = with_count w.meter k (count_in w.meter k + n) }

pub alike_paid : (saved : List Overlay) (st : State) (w : TxnState) (k : LimitKind) (n : ℕ) → Alike saved w st.world.txn → Alike saved (spent k n w) (record (st.world.txn) { charges = Charged k n ∷ st.world.txn.charges })
alike_paid saved st w k n a = record {
  overlay = a.overlay;
  minted = a.minted;
  counts = counts_charge st.world.txn.charges w.meter k n a.eight a.counts;
  eight = length-set w.meter _ _ ∙ a.eight;
}

pub stands_paid : (below : Under) (st : State) (w : TxnState) (k : LimitKind) (n : ℕ) → Stands below st w → Stands below (paid k n st) (spent k n w)
stands_paid below st w k n a =
    let b = alike_paid below.saved st w k n a.alike in
    let e : count_in w.meter Calls ≡ counter Calls st.world.txn.charges = a.alike.counts.each Calls in
    let f : count_in (spent k n w).meter Calls ≡ counter Calls (Charged k n ∷ st.world.txn.charges) = b.counts.each Calls in
    let g : count_in w.meter Depth ≡ counter Depth st.world.txn.charges = a.alike.counts.each Depth in
    let h : count_in (spent k n w).meter Depth ≡ counter Depth (Charged k n ∷ st.world.txn.charges) = b.counts.each Depth in
    let c = a.calls in
    let d = a.firings in
    record { alike = b; calls = omega (arith, e, f, c); firings = omega (arith, g, h, d) }

-- what is a call is no firing
no_firing : (x : After) → calls_of x ≡ 1 → firings_of x ≡ 0
no_firing A.Answered q = refl
no_firing A.Constructed q = refl
no_firing A.Begun q = refl
no_firing (A.Fired f) q = cc

-- one call more is open
pub stands_called : (below : Under) (x : Waiting) (st : State) (w : TxnState) → calls_of x.after ≡ 1 → Stands below st w → Stands (over x below) (paid Calls 1 st) (spent Calls 1 w)
stands_called below x st w q a =
    let b = stands_paid below st w Calls 1 a in
    let e : count_in w.meter Calls ≡ counter Calls st.world.txn.charges = a.alike.counts.each Calls in
    let f : count_in (spent Calls 1 w).meter Calls ≡ counter Calls (Charged Calls 1 ∷ st.world.txn.charges) = b.alike.counts.each Calls in
    let g : leaves Calls st.world.txn.charges ≤ charged_in Calls st.world.txn.charges = a.alike.counts.sound Calls in
    let c = a.calls in
    let d = b.firings in
    let o = no_firing x.after q in
    record { alike = b.alike; calls = omega (arith, e, f, g, c, q); firings = omega (arith, d, o) }

-- one firing more is open
pub stands_fired : (below : Under) (x : Waiting) (st : State) (w : TxnState) → calls_of x.after ≡ 0 → firings_of x.after ≡ 1 → Stands below st w → Stands (over x below) (paid Depth 1 st) (spent Depth 1 w)
stands_fired below x st w p q a =
    let b = stands_paid below st w Depth 1 a in
    let e : count_in w.meter Depth ≡ counter Depth st.world.txn.charges = a.alike.counts.each Depth in
    let f : count_in (spent Depth 1 w).meter Depth ≡ counter Depth (Charged Depth 1 ∷ st.world.txn.charges) = b.alike.counts.each Depth in
    let g : leaves Depth st.world.txn.charges ≤ charged_in Depth st.world.txn.charges = a.alike.counts.sound Depth in
    let c = a.firings in
    let d = b.calls in
    record { alike = b.alike; calls = omega (arith, d, p); firings = omega (arith, e, f, g, c, q) }

-- behind a frame that waited
abbrev pub closing : After → State → State
closing A.Begun st = st
closing (A.Fired f) st = Save.left keeps Depth (with_heap (closed f.count f.first st.world.heap) st)
closing _ st = Save.left keeps Calls st

abbrev pub fewer_of : LimitKind → TxnState → TxnState
fewer_of k w = record w { meter = with_count w.meter k (count_in w.meter k - 1) }

abbrev pub fewer : TxnState → TxnState
fewer w = fewer_of Calls w

alike_left : (saved : List Overlay) (st : State) (w : TxnState) (k : LimitKind) → 0 < count_in w.meter k → Alike saved w st.world.txn → Alike saved (fewer_of k w) (Save.left keeps k st).world.txn
alike_left saved st w k above a = record {
  overlay = a.overlay;
  minted = a.minted;
  counts = counts_leave st.world.txn.charges w.meter k a.eight above a.counts;
  eight = length-set w.meter _ _ ∙ a.eight;
}

-- one call fewer is open
pub stands_closed : (below : Under) (x : Waiting) (st : State) (w : TxnState) → calls_of x.after ≡ 1 → Stands (over x below) st w → Stands below (Save.left keeps Calls st) (fewer w)
stands_closed below x st w q a =
    let c = a.calls in
    let above : 0 < count_in w.meter Calls = omega (arith, c, q) in
    let b = alike_left below.saved st w Calls above a.alike in
    let e : count_in w.meter Calls ≡ counter Calls st.world.txn.charges = a.alike.counts.each Calls in
    let f : count_in (fewer w).meter Calls ≡ counter Calls (Leaving Calls ∷ st.world.txn.charges) = b.counts.each Calls in
    let g : count_in w.meter Depth ≡ counter Depth st.world.txn.charges = a.alike.counts.each Depth in
    let h : count_in (fewer w).meter Depth ≡ counter Depth (Leaving Calls ∷ st.world.txn.charges) = b.counts.each Depth in
    let d = a.firings in
    record { alike = b; calls = omega (arith, e, f, c, q); firings = omega (arith, g, h, d) }

-- one firing fewer is open
pub stands_over : (below : Under) (x : Waiting) (st : State) (w : TxnState) → calls_of x.after ≡ 0 → firings_of x.after ≡ 1 → Stands (over x below) st w → Stands below (Save.left keeps Depth st) (fewer_of Depth w)
stands_over below x st w p q a =
    let d = a.firings in
    let above : 0 < count_in w.meter Depth = omega (arith, d, q) in
    let b = alike_left below.saved st w Depth above a.alike in
    let e : count_in w.meter Depth ≡ counter Depth st.world.txn.charges = a.alike.counts.each Depth in
    let f : count_in (fewer_of Depth w).meter Depth ≡ counter Depth (Leaving Depth ∷ st.world.txn.charges) = b.counts.each Depth in
    let g : count_in w.meter Calls ≡ counter Calls st.world.txn.charges = a.alike.counts.each Calls in
    let h : count_in (fewer_of Depth w).meter Calls ≡ counter Calls (Leaving Depth ∷ st.world.txn.charges) = b.counts.each Calls in
    let c = a.calls in
    record { alike = b; calls = omega (arith, g, h, c, p); firings = omega (arith, e, f, d, q) }

-- initial values are neither
pub stands_begun : (below : Under) (x : Waiting) (st : State) (w : TxnState) → x.after ≡ A.Begun → Stands (over x below) st w → Stands below st w
stands_begun below x st w q a =
    let c = a.calls in
    let d = a.firings in
    let e : calls_of x.after ≡ 0 = ap calls_of q in
    record { alike = a.alike; calls = omega (arith, c, e); firings = omega (arith, d) }

pub stands_begins : (below : Under) (x : Waiting) (st : State) (w : TxnState) → x.after ≡ A.Begun → Stands below st w → Stands (over x below) st w
stands_begins below x st w q a =
    let c = a.calls in
    let d = a.firings in
    let e : calls_of x.after ≡ 0 = ap calls_of q in
    let f : firings_of x.after ≡ 0 = ap firings_of q in
    record { alike = a.alike; calls = omega (arith, c, e); firings = omega (arith, d, f) }

module _ (site : Site) (image : Image) (r : Trail.Run) where
  -- on this tape the machine comes from here to r
  abbrev pub Runs : Config → List Answer → Type 0
  Runs c tape = (n : ℕ) × Ends site image c tape n r

  -- so it does once a step gave this
  abbrev pub Comes : Next → Config → List Answer → Type 0
  Comes x c tape = (n : ℕ) × (drive n (steps site image n) x c tape ≡ Some r)

  pub stepped : (c : Config) (tape : List Answer) (x : Next) → step site image c ≡ x → Comes x c tape → Runs c tape
  stepped c tape x e h = (suc h.0, ap (λ y. drive h.0 (steps site image h.0) y c tape) e ∙ h.1)

  pub comes_as : (x y : Next) (c : Config) (tape : List Answer) → x ≡ y → Comes y c tape → Comes x c tape
  comes_as x y c tape e h = (h.0, ap (λ z. drive h.0 (steps site image h.0) z c tape) e ∙ h.1)

  -- from here the machine comes to r, wherever the instructions k are all that is left of the body's code
  pub record At (a : Around) (k : List Instr) (temps : List Value) (st : State) : Type 0 where
    pub by : (pc : ℕ) (w : TxnState) → Stands a.below st w → drop pc (instrs_at image a.body) ≡ k → Runs (config a pc temps st w) st.world.txn.tape

  -- what leaves early comes to r
  pub record Left (a : Around) (why : Abrupt) (st : State) : Type 0 where
    pub by : (pc : ℕ) (temps : List Value) (w : TxnState) → Stands a.below st w → Runs (in_mode (config a pc temps st w) (M.Leaving why)) st.world.txn.tape

  -- an end that nothing sees
  abbrev pub Shut : Finish → State → Type 0
  Shut (Halts k n) st = Trail.Ends (ended (O.Limit k n) st.world) no_writes ≡ r
  Shut (Needs q) st = Trail.Asks q ≡ r
  Shut Unfinished st = ⊥
  Shut Unbuilt st = Trail.Ends (refusal not_yet) no_writes ≡ r

  -- it comes to r, where a machine stands for the state
  abbrev pub Closed : Finish → State → Type 0
  Closed f st = (saved : List Overlay) (w : TxnState) → Alike saved w st.world.txn → Shut f st

  abbrev pub Stopped : Around → Stop Abrupt → State → Type 0
  Stopped a (Leaves why) st = Left a why st
  Stopped a (Closes f) st = Closed f st

  -- one instruction
  pub first : (a : Around) (i : Instr) (k : List Instr) (temps : List Value) (st : State) →
      ((pc : ℕ) (w : TxnState) → Stands a.below st w → drop (pc + 1) (instrs_at image a.body) ≡ k → Comes (act site image (Some i) (config a pc temps st w)) (config a pc temps st w) st.world.txn.tape) → At a (i ∷ k) temps st
  first a i k temps st go = record {
    by = λ pc w b d.
        stepped (config a pc temps st w) st.world.txn.tape (act site image (Some i) (config a pc temps st w))
        (ap (λ o. act site image o (config a pc temps st w)) (fetch pc (instrs_at image a.body) i k d))
        (go pc w b (next pc (instrs_at image a.body) i k d));
  }

  pub at_same : (a : Around) (k l : List Instr) (temps : List Value) (st : State) → k ≡ l → At a l temps st → At a k temps st
  at_same a k l temps st eq h = subst (λ c. At a c temps st) (sym eq) h

  pub again_at : (a : Around) (x y k : List Instr) (temps : List Value) (st : State) → At a (x ++ (y ++ k)) temps st → At a ((x ++ y) ++ k) temps st
  again_at a x y k temps st h = at_same a ((x ++ y) ++ k) (x ++ (y ++ k)) temps st (append_assoc x y k) h

  -- ---- charges

  -- the meter has room exactly where the list of charges has; `d` is the machine without its world
  pub charge_then : {E : Type 0} (below : Under) (k : LimitKind) (n : ℕ) (st : State) (w : TxnState) (d : Config) (go : Config → Next) (c : Config) (tape : List Answer) (ok : Unit {0} → State → Type 0) (end : Stop E → State → Type 0) →
      Stands below st w → ((f : Finish) → end (Closes f) st → Closed f st) → Holds ok end (Save.charge keeps {E = E} k n st) →
      (Stands below (paid k n st) (spent k n w) → ok tt (paid k n st) → Comes (go (record d { world = world st (spent k n w) })) c tape) →
      Comes (charged k n (record d { world = world st w }) go) c tape
  charge_then {E = E} below k n st w d go c tape ok end a close post then = by_test (fits k n st.world.txn.charges) (ap (λ x. leb (x + n) (limit_of k)) (a.alike.counts.each k)) post where
    by_test : (b : Bool) → leb (count_in w.meter k + n) (limit_of k) ≡ b → Holds ok end (Save.charge_if keeps {E = E} b k n st) → Comes (charged k n (record d { world = world st w }) go) c tape
    by_test true e h = comes_as _ _ c tape (ap (λ b. charged_if b k n (record d { world = world st w }) go) e) (then (stands_paid below st w k n a) h)
    by_test false e h =
        comes_as _ _ c tape (ap (λ b. charged_if b k n (record d { world = world st w }) go) e)
        (0, ap Some (ap (λ x. Trail.Ends x no_writes) (same_reply (O.Limit k (limit_of k + 1)) below.saved st w a.alike) ∙ close (Halts k (limit_of k + 1)) h below.saved w a.alike))

  -- a charge within code, at a place of its body
  pub charge_at : (a : Around) (k : LimitKind) (n : ℕ) (st : State) (pc : ℕ) (temps : List Value) (w : TxnState) (go : Config → Next) (c : Config) → Stands a.below st w →
      Holds (λ u s. (v : TxnState) → Stands a.below s v → Comes (go (config a pc temps s v)) c s.world.txn.tape) (Stopped a) (charge k n st) →
      Comes (charged k n (config a pc temps st w) go) c st.world.txn.tape
  charge_at a k n st pc temps w go c b post =
      charge_then a.below k n st w (config a pc temps st w) go c st.world.txn.tape (λ u s. (v : TxnState) → Stands a.below s v → Comes (go (config a pc temps s v)) c s.world.txn.tape) (Stopped a) b (λ f h. h) post
      (λ x h. h (spent k n w) x)

  -- ---- code and what it does, in whatever stands around it

  -- code that puts what a run gives
  abbrev pub Puts : Run → List Instr → Type 0
  Puts f is = (a : Around) (k : List Instr) (temps : List Value) (st : State) → Holds (λ v s. At a k (v ∷ temps) s) (Stopped a) (f st) → At a (is ++ k) temps st

  -- code that goes on with the value on top
  abbrev pub Takes : Behind → List Instr → Type 0
  Takes g is = (a : Around) (v : Value) (k : List Instr) (temps : List Value) (st : State) → Holds (λ x s. At a k (x ∷ temps) s) (Stopped a) (g v st) → At a (is ++ k) (v ∷ temps) st

  -- code that does something and leaves the operand stack
  abbrev pub Keeps : Do → List Instr → Type 0
  Keeps f is = (a : Around) (k : List Instr) (temps : List Value) (st : State) → Holds (λ u s. At a k temps s) (Stopped a) (f st) → At a (is ++ k) temps st

  -- code of statements, which stand where the operand stack is empty
  abbrev pub Does : Do → List Instr → Type 0
  Does f is = (a : Around) (k : List Instr) (st : State) → Holds (λ u s. At a k [] s) (Stopped a) (f st) → At a (is ++ k) [] st

  -- code of a condition, with what chooses by it: where it holds the code k goes on, and otherwise the code behind so many
  -- instructions of it
  abbrev pub Tests : Test → List Instr → Type 0
  Tests f is = (a : Around) (n : ℕ) (k l : List Instr) (temps : List Value) (st : State) → drop n k ≡ l → Holds (λ b s. At a (cond b k l) temps s) (Stopped a) (f st) → At a (is ++ I.Unless n ∷ k) temps st

  pub puts_same : (f g : Run) (is js : List Instr) → ((st : State) → f st ≡ g st) → is ≡ js → Puts g js → Puts f is
  puts_same f g is js q e h a k temps st post = at_same a (is ++ k) (js ++ k) temps st (ap (λ c. c ++ k) e) (h a k temps st (subst (λ res. Holds (λ v s. At a k (v ∷ temps) s) (Stopped a) res) (q st) post))

  pub takes_same : (f g : Behind) (is js : List Instr) → ((v : Value) (st : State) → f v st ≡ g v st) → is ≡ js → Takes g js → Takes f is
  takes_same f g is js q e h a v k temps st post = at_same a (is ++ k) (js ++ k) (v ∷ temps) st (ap (λ c. c ++ k) e) (h a v k temps st (subst (λ res. Holds (λ x s. At a k (x ∷ temps) s) (Stopped a) res) (q v st) post))

  pub does_same : (f g : Do) (is js : List Instr) → ((st : State) → f st ≡ g st) → is ≡ js → Does g js → Does f is
  does_same f g is js q e h a k st post = at_same a (is ++ k) (js ++ k) [] st (ap (λ c. c ++ k) e) (h a k st (subst (λ res. Holds (λ u s. At a k [] s) (Stopped a) res) (q st) post))

  -- one behind the other
  pub puts_then : (f : Run) (g : Behind) (is js : List Instr) → Puts f is → Takes g js → Puts (λ st. bind (f st) g) (is ++ js)
  puts_then f g is js p t a k temps st post =
      again_at a is js k temps st (p a (js ++ k) temps st (weaken _ _ (Stopped a) (f st) (λ v s h. t a v k temps s h) (bound (λ v s. At a k (v ∷ temps) s) (Stopped a) (f st) g post)))

  pub takes_then : (f g : Behind) (is js : List Instr) → Takes f is → Takes g js → Takes (λ v st. bind (f v st) g) (is ++ js)
  takes_then f g is js p t a v k temps st post =
      again_at a is js k (v ∷ temps) st (p a v (js ++ k) temps st (weaken _ _ (Stopped a) (f v st) (λ x s h. t a x k temps s h) (bound (λ x s. At a k (x ∷ temps) s) (Stopped a) (f v st) g post)))

  pub does_keeping : (f : Do) (is : List Instr) → Keeps f is → Does f is
  does_keeping f is h a k st post = h a k [] st post

  pub unbuilt_at : (a : Around) (k : List Instr) (temps : List Value) (st : State) → Closed Unbuilt st → At a (I.Unbuilt ∷ k) temps st
  unbuilt_at a k temps st post = first a I.Unbuilt k temps st (λ pc w b d. (0, ap Some (post a.below.saved w b.alike)))

  pub puts_unbuilt : Puts (λ st. unbuilt st) unbuilt_code
  puts_unbuilt a k temps st post = unbuilt_at a k temps st post

  -- ---- instructions that statements need too

  pub pop_at : (a : Around) (v : Value) (k : List Instr) (temps : List Value) (st : State) → At a k temps st → At a (I.Pop ∷ k) (v ∷ temps) st
  pop_at a v k temps st post = first a I.Pop k (v ∷ temps) st (λ pc w b d. post.by (pc + 1) w b d)

  pub step_at : (a : Around) (k : List Instr) (temps : List Value) (st : State) → Holds (λ u s. At a k temps s) (Stopped a) (charge Steps 1 st) → At a (I.Step ∷ k) temps st
  step_at a k temps st post =
      first a I.Step k temps st (λ pc w b d.
      charge_at a Steps 1 st pc temps w _ (config a pc temps st w) b (weaken _ _ (Stopped a) (charge Steps 1 st) (λ u s h v x. h.by (pc + 1) v x d) post))

  pub jump_at : (a : Around) (n : ℕ) (l k : List Instr) (temps : List Value) (st : State) → drop n l ≡ k → At a k temps st → At a (I.Jump n ∷ l) temps st
  jump_at a n l k temps st e post = first a (I.Jump n) l temps st (λ pc w b d. post.by (pc + 1 + n) w b (past pc n (instrs_at image a.body) l k e d))
