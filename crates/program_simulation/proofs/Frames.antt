-- Frames that begin over others, and what is assumed of the ways back in.
use Rattle.std.proofs.Common.{◌≡◌, ℕ, List, [], ◌∷◌, drop, None, refl, sym, ap, subst}
use Rattle.activations.specs.declared.abrupt.Abrupt.{Abrupt}
use Rattle.activations.specs.declared.abrupt.Abrupt.TheVariants.{Throws, Returns, Breaks, Continues}
use Rattle.activations.specs.declared.abrupt.Raised.{Raised}
use Rattle.activations.specs.declared.here.Here.{Here}
use Rattle.apex_num.specs.declared.kind.LimitKind.TheVariants.{Steps, Depth, Calls}
use Rattle.tenant_trails.specs.Runs as Trail
use Rattle.txn_heap.specs.declared.thing.Value.{Value}
use Rattle.save_meaning.specs.Sites.{Site}
use Rattle.save_meaning.specs.Results.{Stop, Leaves, Closes, Gives, Stops, bind, Holds}
use Rattle.save_meaning.specs.Transactions as Save
use Rattle.save_meaning.specs.declared.run.TxnState.{TxnState}
use Rattle.save_meaning.proofs.Holding.{bound}
use Rattle.request_states.specs.States.{State, Res, charge, keeps}
use Rattle.request_states.specs.Values.{null}
use Rattle.apex_meaning.specs.Meanings.{Again, Body, Method, Constructor, Fields, Statics, Trigger, Do, Test, called, no_longer_open}
use Rattle.apex_meaning.specs.Exceptions.{kind_of, message_told}
use Rattle.save_statements.specs.Moves.{came_back}
use Rattle.save_statements.specs.declared.firing.Fired.{Fired}
use Rattle.save_statements.specs.declared.firing.Fired.TheVariants.{Ran, Threw}
use Rattle.trigger_things.specs.Lefts.{lefts}
use Rattle.stack_code.specs.Calls.{activation, call}
use Rattle.stack_code.specs.Code.{loop_code}
use Rattle.stack_code.specs.Machine.{instrs_at}
use Rattle.stack_code.specs.Steps.{act}
use Rattle.stack_code.specs.Things.{name_of_kind}
use Rattle.stack_code.specs.declared.code.Instr.{Instr}
use Rattle.stack_code.specs.declared.image.Image.{Image}
use Rattle.stack_code.specs.declared.state.After.{After}
use Rattle.stack_code.specs.declared.state.After.TheVariants as A
use Rattle.stack_code.specs.declared.state.BodyAt.{BodyAt}
use Rattle.stack_code.specs.declared.state.BodyAt.TheVariants as B
use Rattle.stack_code.specs.declared.state.Config.{Config}
use Rattle.stack_code.specs.declared.state.Firing.{Firing}
use Rattle.stack_code.specs.declared.state.Frame.{Frame}
use Rattle.stack_code.specs.declared.state.Mode.{Mode}
use Rattle.stack_code.specs.declared.state.Mode.TheVariants as M
use Rattle.stack_code.specs.declared.state.Waiting.{Waiting}
use Rattle.program_simulation.proofs.Fetch.{fetch_none}
use Rattle.program_simulation.proofs.Simulates.{Around, Under, over, frame, config, world, calls_of, Stands, paid, spent, stands_called, closing, fewer, fewer_of, stands_closed, stands_over, stands_begun, Runs, Comes, stepped, At, Left, Closed, Stopped, charge_then, Does, Tests}

-- the frame that runs, and those that wait for it
pub record Ground : Type 0 where
  pub top : Frame
  pub below : Under

abbrev pub ground : Around → ℕ → List Value → Here → Ground
ground a pc temps here = record { top = frame a pc temps here; below = a.below }

abbrev pub in_it : Ground → Mode → State → TxnState → Config
in_it g mode st w = record { top = g.top; mode = mode; below = g.below.frames; world = world st w }

-- the machine goes on there
abbrev pub standing : Ground → State → TxnState → Config
standing g st w = in_it g M.Running st w

abbrev pub waits : Ground → After → Waiting
waits g after = record { frame = g.top; after = after }

-- where the body of a frame above it runs
abbrev pub callee : Ground → BodyAt → After → Around
callee g body after = record { body = body; handlers = []; below = over (waits g after) g.below }

-- its value came back
abbrev pub answered : After → Value → List Value → List Value
answered A.Answered v stack = v ∷ stack
answered _ v stack = stack

abbrev pub with_stack : Ground → List Value → Ground
with_stack g stack = record { top = record (g.top) { stack = stack }; below = g.below }

abbrev pub resumed : Ground → After → Value → Ground
resumed g after v = with_stack g (answered after v g.top.stack)

abbrev pub at_body : Body → BodyAt
at_body (Method c m) = B.Method c m
at_body (Constructor c k) = B.Constructor c k
at_body (Fields c) = B.Fields c
at_body (Statics c) = B.Statics c
at_body (Trigger n) = B.Trigger n

module _ (site : Site) (image : Image) (r : Trail.Run) where
  -- a frame that is entered over it
  abbrev pub entered : Ground → BodyAt → List Value → Value → After → Here → Ground
  entered g body args this after caller = record {
    top = record { body = body; pc = 0; here = activation image body args this caller; stack = []; handlers = [] };
    below = over (waits g after) g.below;
  }

  -- from there the machine comes to r
  pub record Ready (g : Ground) (st : State) : Type 0 where
    pub by : (w : TxnState) → Stands g.below st w → Runs site image r (standing g st w) st.world.txn.tape

  pub record Fled (g : Ground) (why : Abrupt) (st : State) : Type 0 where
    pub by : (w : TxnState) → Stands g.below st w → Runs site image r (in_it g (M.Leaving why) st w) st.world.txn.tape

  -- what a firing came to: how it left its records, and what it threw
  abbrev pub ran : Firing → State → Fired
  ran f st = Ran (lefts f.count f.first st.world.heap)

  abbrev pub threw : Firing → Raised → State → Fired
  threw f e st = Threw (name_of_kind image (kind_of e st.world.heap)) (message_told e st.world.heap) (lefts f.count f.first st.world.heap)

  -- the save of a firing goes on with it
  pub record Handed (g : Ground) (f : Firing) (fired : Fired) (st : State) : Type 0 where
    pub by : (w : TxnState) → Stands g.below st w → Runs site image r (in_it g (M.Saving f.places (came_back f.run fired)) st w) st.world.txn.tape

  -- so it does behind a frame that gave a value, or that was left
  abbrev pub Given : Ground → After → Value → State → Type 0
  Given g (A.Fired f) v st = Handed g f (ran f st) (closing (A.Fired f) st)
  Given g after v st = Ready (resumed g after v) (closing after st)

  abbrev pub Thrown : Ground → After → Raised → State → Type 0
  Thrown g (A.Fired f) e st = Handed g f (threw f e st) (closing (A.Fired f) st)
  Thrown g after e st = Fled g (Throws e) (closing after st)

  abbrev pub Gone : Ground → After → Stop Abrupt → State → Type 0
  Gone g after (Leaves (Throws e)) st = Thrown g after e st
  Gone g after (Leaves (Returns v)) st = Unit {0}
  Gone g after (Leaves Breaks) st = Unit {0}
  Gone g after (Leaves Continues) st = Unit {0}
  Gone g after (Closes f) st = Closed site image r f st

  -- what is assumed of the ways back in: a frame of a body that is entered comes to r if what follows its result does; and the
  -- code of a loop does what the loop does, where its parts do what theirs do
  pub record Follows (again : Again) : Type 0 where
    pub body : (b : Body) (args : List Value) (this : Value) (after : After) (g : Ground) (st : State) (w : TxnState) →
        Stands (over (waits g after) g.below) st w →
        Holds (λ v s. s.here ≡ st.here → Given g after v s) (λ why s. s.here ≡ st.here → Gone g after why s) (again.body b args this st) →
        Runs site image r (standing (entered g (at_body b) args this after st.here) st w) st.world.txn.tape
    pub loop : (condition : Test) (body behind : Do) (cc bc nc : List Instr) → Tests site image r condition cc → Does site image r body bc → Does site image r behind nc →
        Does site image r (again.loop condition body behind) (loop_code cc bc nc)

  -- ---- how a body ends

  -- it gives a value: by a `return`, and behind its last instruction null
  pub returns_left : (g : Ground) (body : BodyAt) (after : After) (v : Value) (st : State) → Given g after v st → Left site image r (callee g body after) (Returns v) st
  returns_left g body A.Begun v st h = record { by = λ pc temps w a. stepped site image r _ st.world.txn.tape _ refl (h.by w (stands_begun g.below (waits g A.Begun) st w refl a)) }
  returns_left g body A.Answered v st h = record { by = λ pc temps w a. stepped site image r _ st.world.txn.tape _ refl (h.by (fewer w) (stands_closed g.below (waits g A.Answered) st w refl a)) }
  returns_left g body A.Constructed v st h = record { by = λ pc temps w a. stepped site image r _ st.world.txn.tape _ refl (h.by (fewer w) (stands_closed g.below (waits g A.Constructed) st w refl a)) }
  returns_left g body (A.Fired f) v st h = record { by = λ pc temps w a. stepped site image r _ st.world.txn.tape _ refl (h.by (fewer_of Depth w) (stands_over g.below (waits g (A.Fired f)) st w refl refl a)) }

  -- what is thrown in it goes on in the frame that waits
  pub throws_left : (g : Ground) (body : BodyAt) (after : After) (e : Raised) (st : State) → Thrown g after e st → Left site image r (callee g body after) (Throws e) st
  throws_left g body A.Begun e st h = record { by = λ pc temps w a. stepped site image r _ st.world.txn.tape _ refl (h.by w (stands_begun g.below (waits g A.Begun) st w refl a)) }
  throws_left g body A.Answered e st h = record { by = λ pc temps w a. stepped site image r _ st.world.txn.tape _ refl (h.by (fewer w) (stands_closed g.below (waits g A.Answered) st w refl a)) }
  throws_left g body A.Constructed e st h = record { by = λ pc temps w a. stepped site image r _ st.world.txn.tape _ refl (h.by (fewer w) (stands_closed g.below (waits g A.Constructed) st w refl a)) }
  throws_left g body (A.Fired f) e st h = record { by = λ pc temps w a. stepped site image r _ st.world.txn.tape _ refl (h.by (fewer_of Depth w) (stands_over g.below (waits g (A.Fired f)) st w refl refl a)) }

  -- a `break` or `continue` outside of loops ends it
  pub breaks_left : (g : Ground) (body : BodyAt) (after : After) (st : State) → Given g after null st → Left site image r (callee g body after) Breaks st
  breaks_left g body A.Begun st h = record { by = λ pc temps w a. stepped site image r _ st.world.txn.tape _ refl (h.by w (stands_begun g.below (waits g A.Begun) st w refl a)) }
  breaks_left g body A.Answered st h = record { by = λ pc temps w a. stepped site image r _ st.world.txn.tape _ refl (h.by (fewer w) (stands_closed g.below (waits g A.Answered) st w refl a)) }
  breaks_left g body A.Constructed st h = record { by = λ pc temps w a. stepped site image r _ st.world.txn.tape _ refl (h.by (fewer w) (stands_closed g.below (waits g A.Constructed) st w refl a)) }
  breaks_left g body (A.Fired f) st h = record { by = λ pc temps w a. stepped site image r _ st.world.txn.tape _ refl (h.by (fewer_of Depth w) (stands_over g.below (waits g (A.Fired f)) st w refl refl a)) }

  pub continues_left : (g : Ground) (body : BodyAt) (after : After) (st : State) → Given g after null st → Left site image r (callee g body after) Continues st
  continues_left g body A.Begun st h = record { by = λ pc temps w a. stepped site image r _ st.world.txn.tape _ refl (h.by w (stands_begun g.below (waits g A.Begun) st w refl a)) }
  continues_left g body A.Answered st h = record { by = λ pc temps w a. stepped site image r _ st.world.txn.tape _ refl (h.by (fewer w) (stands_closed g.below (waits g A.Answered) st w refl a)) }
  continues_left g body A.Constructed st h = record { by = λ pc temps w a. stepped site image r _ st.world.txn.tape _ refl (h.by (fewer w) (stands_closed g.below (waits g A.Constructed) st w refl a)) }
  continues_left g body (A.Fired f) st h = record { by = λ pc temps w a. stepped site image r _ st.world.txn.tape _ refl (h.by (fewer_of Depth w) (stands_over g.below (waits g (A.Fired f)) st w refl refl a)) }

  -- past its last instruction
  pub ends_at : (g : Ground) (body : BodyAt) (after : After) (temps : List Value) (st : State) → Given g after null st → At site image r (callee g body after) [] temps st
  ends_at g body after temps st h = record {
    by = λ pc w b d.
        let a = callee g body after in
        stepped site image r (config a pc temps st w) st.world.txn.tape (act site image None (config a pc temps st w))
        (ap (λ o. act site image o (config a pc temps st w)) (fetch_none pc (instrs_at image body) d))
        ((returns_left g body after null st h).by pc [] w b);
  }

  -- ---- calls

  given_called : (g : Ground) (after : After) (v : Value) (st : State) → calls_of after ≡ 1 → Ready (resumed g after v) (closing after st) → Given g after v st
  given_called g A.Answered v st q h = h
  given_called g A.Constructed v st q h = h
  given_called g A.Begun v st q h = h
  given_called g (A.Fired f) v st q h = cc

  thrown_called : (g : Ground) (after : After) (e : Raised) (st : State) → calls_of after ≡ 1 → Fled g (Throws e) (closing after st) → Thrown g after e st
  thrown_called g A.Answered e st q h = h
  thrown_called g A.Constructed e st q h = h
  thrown_called g A.Begun e st q h = h
  thrown_called g (A.Fired f) e st q h = cc

  -- a declared method or constructor is called from there; `after` says that it is a call
  pub called_at : (again : Again) → Follows again → (b : Body) (args : List Value) (this : Value) (after : After) (g : Ground) (st : State) (w : TxnState) (c : Config) →
      calls_of after ≡ 1 → ((s : State) → closing after s ≡ Save.left keeps Calls s) → Stands g.below st w →
      Holds (λ v s. s.here ≡ st.here → Ready (resumed g after v) s) (λ why s. s.here ≡ st.here → Gone g A.Begun why s) (called (again.body b args this) st) →
      Comes site image r (call image (at_body b) args this after st.here (standing g st w)) c st.world.txn.tape
  called_at again follows b args this after g st w c one left a post =
      charge_then site image r g.below Calls 1 st w (standing g st w) _ c st.world.txn.tape _ _ a (λ f h. h refl) (bound ok end (charge Calls 1 st) (λ u s. bind (charge Steps 1 s) (λ u1 s1. no_longer_open (again.body b args this s1))) post) (λ a1 post1.
      charge_then site image r (over (waits g after) g.below) Steps 1 s1 w1 (standing g st w1) _ c st.world.txn.tape _ _ (stands_called g.below (waits g after) st w one a) (λ f h. h refl) (bound ok end (charge Steps 1 s1) (λ u1 s2. no_longer_open (again.body b args this s2)) post1) (λ a2 post2.
      follows.body b args this after g (paid Steps 1 s1) (spent Steps 1 w1) a2 (opened (again.body b args this (paid Steps 1 s1)) post2)))
    where
      ok : Value → State → Type 0
      ok v s = s.here ≡ st.here → Ready (resumed g after v) s

      end : Stop Abrupt → State → Type 0
      end why s = s.here ≡ st.here → Gone g A.Begun why s

      s1 : State
      s1 = paid Calls 1 st

      w1 : TxnState
      w1 = spent Calls 1 w

      opened : (res : Res Value) → Holds ok end (no_longer_open res) → Holds (λ v s. s.here ≡ st.here → Given g after v s) (λ why s. s.here ≡ st.here → Gone g after why s) res
      opened (Gives v s) h = λ e. given_called g after v s one (subst (λ x. Ready (resumed g after v) x) (sym (left s)) (h e))
      opened (Stops (Leaves (Throws x)) s) h = λ e. thrown_called g after x s one (subst (λ y. Fled g (Throws x) y) (sym (left s)) (h e))
      opened (Stops (Leaves (Returns v)) s) h = λ e. tt
      opened (Stops (Leaves Breaks) s) h = λ e. tt
      opened (Stops (Leaves Continues) s) h = λ e. tt
      opened (Stops (Closes f) s) h = λ e. h e

  -- what stops code at a place of a body stops the frame there
  pub stopped_gone : (a : Around) (pc : ℕ) (temps : List Value) (here : Here) (why : Stop Abrupt) (s : State) → Stopped site image r a why s → s.here ≡ here → Gone (ground a pc temps here) A.Begun why s
  stopped_gone a pc temps here (Leaves (Throws e)) s h q =
      subst (λ x. Fled (ground a pc temps x) (Throws e) s) q (record { by = λ w b. h.by pc temps w b })
  stopped_gone a pc temps here (Leaves (Returns v)) s h q = tt
  stopped_gone a pc temps here (Leaves Breaks) s h q = tt
  stopped_gone a pc temps here (Leaves Continues) s h q = tt
  stopped_gone a pc temps here (Closes f) s h q = h

  -- and what goes on there goes on in the frame
  pub at_ready : (a : Around) (pc : ℕ) (k : List Instr) (temps : List Value) (here : Here) (s : State) → drop pc (instrs_at image a.body) ≡ k → At site image r a k temps s → s.here ≡ here → Ready (ground a pc temps here) s
  at_ready a pc k temps here s d h q = subst (λ x. Ready (ground a pc temps x) s) q (record { by = λ w b. h.by pc w b d })
