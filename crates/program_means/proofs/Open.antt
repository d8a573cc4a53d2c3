-- What is opened: loops, loops over items, clauses, and what runs at last.
use Rattle.std.proofs.Common.{◌≡◌, ℕ, ◌+◌, ◌-◌, Bool, true, false, List, [], ◌∷◌, ◌++◌, length, drop, Option, None, Some, refl, sym, ap}
use Rattle.std.specs.Prelude.{cond}
use Rattle.activations.specs.declared.abrupt.Abrupt.{Abrupt}
use Rattle.activations.specs.declared.abrupt.Abrupt.TheVariants.{Throws, Returns, Breaks, Continues}
use Rattle.activations.specs.declared.abrupt.Raised.TheVariants.{Platform}
use Rattle.request_states.specs.States.{State, Res, charge, keeps, set_local}
use Rattle.apex_num.specs.declared.kind.LimitKind.TheVariants as K
use Rattle.apex_meaning.specs.Collections.{items_of}
use Rattle.apex_meaning.specs.Meanings.{Do, Test, calc, finally, looping}
use Rattle.apex_meaning.specs.Statements.{each, each_of}
use Rattle.save_meaning.specs.Results.{Gives, Stops, Stop, Leaves, Closes, bind, Holds}
use Rattle.save_meaning.specs.Sites.{Site}
use Rattle.save_meaning.specs.declared.run.TxnState.{TxnState}
use Rattle.save_meaning.proofs.Holding.{bound, weaken}
use Rattle.tenant_trails.specs.Runs as Trail
use Rattle.txn_heap.specs.declared.thing.Value.{Value}
use Rattle.typed_program.specs.declared.expr.Conversion.{Conversion}
use Rattle.value_operators.specs.Operators.{Calc, converted}
use Rattle.value_operators.specs.declared.calculated.Calculated.TheVariants.{Val, Fails}
use Rattle.stack_code.specs.Code.{Instrs, loop_code, each_code, finally_code}
use Rattle.stack_code.specs.Machine.{Goes, instrs_at, in_mode, on_calc, next, with_local}
use Rattle.stack_code.specs.declared.state.Config.{Config}
use Rattle.limit_meter.specs.Charges.{fits}
use Rattle.save_meaning.specs.Transactions as Save
use Rattle.stack_code.specs.Steps as Steps
use Rattle.stack_code.specs.declared.code.Instr.{Instr}
use Rattle.stack_code.specs.declared.code.Instr.TheVariants as I
use Rattle.stack_code.specs.declared.image.Image.{Image}
use Rattle.stack_code.specs.declared.state.Handler.{Handler}
use Rattle.stack_code.specs.declared.state.Handler.TheVariants as H
use Rattle.stack_code.specs.declared.state.Mode.TheVariants as M
use Rattle.program_means.proofs.Lists.{back_to, turn_to, turn_again, turn_out, loop_to, loop_is, loop_out, loop_length, items_to, each_is, each_out, each_end, each_length, finally_is, finally_last}
use Rattle.program_simulation.proofs.Simulates as T
use Rattle.program_simulation.proofs.Fetch.{fetch, past}
use Rattle.program_simulation.proofs.Simulates.{Around, inside, config, Stands, Comes, stepped}

module _ (site : Site) (image : Image) (r : Trail.Run) where
  abbrev At : Around → Instrs → List Value → State → Type 0
  At a k temps st = T.At site image r a k temps st

  abbrev Left : Around → Abrupt → State → Type 0
  Left a why st = T.Left site image r a why st

  abbrev Stopped : Around → Stop Abrupt → State → Type 0
  Stopped a why st = T.Stopped site image r a why st

  -- what is to be shown of a part that does something, or of one that doesn't end with it
  abbrev pub GoesOn : Around → Instrs → Res (Unit {0}) → Type 0
  GoesOn a k res = Holds (λ u s. At a k [] s) (Stopped a) res

  abbrev Does : Do → Instrs → Type 0
  Does f is = T.Does site image r f is

  -- the code of the body
  abbrev code : Around → Instrs
  code a = instrs_at image a.body

  -- one instruction, whose place is known
  pub first_here : (a : Around) (i : Instr) (k : Instrs) (temps : List Value) (st : State) →
      ((pc : ℕ) (w : TxnState) → Stands a.below st w → drop pc (code a) ≡ i ∷ k → Comes site image r (Steps.act site image (Some i) (config a pc temps st w)) (config a pc temps st w) st.world.txn.tape) → At a (i ∷ k) temps st
  first_here a i k temps st go = record {
    by = λ pc w b d.
        stepped site image r (config a pc temps st w) st.world.txn.tape (Steps.act site image (Some i) (config a pc temps st w))
        (ap (λ o. Steps.act site image o (config a pc temps st w)) (fetch pc (code a) i k d)) (go pc w b d);
  }

  -- ---- jumps

  -- back to a place that is known
  pub back_at : (a : Around) (pc0 n : ℕ) (k l : Instrs) (st : State) → drop pc0 (code a) ≡ l → length l ≡ n + length (I.Back n ∷ k) → At a l [] st → At a (I.Back n ∷ k) [] st
  back_at a pc0 n k l st d len post =
      first_here a (I.Back n) k [] st (λ pc w s g. post.by (pc - n) w s (back_to pc0 pc (code a) (I.Back n) l k n d g len))

  -- ---- what is open is closed, or met

  pub close_at : (a : Around) (h : Handler) (k : Instrs) (st : State) → At a k [] st → At (inside a h) (I.Close ∷ k) [] st
  close_at a h k st post = T.first site image r (inside a h) I.Close k [] st (λ pc w s d. post.by (pc + 1) w s d)

  abbrev pub with_open : Around → List Handler → Around
  with_open a hs = record { body = a.body; handlers = hs; below = a.below }

  -- code that is left goes on at a place
  pub goes_at : (a : Around) (h : Handler) (why : Abrupt) (hs : List Handler) (p : ℕ) (y : Instrs) (st : State) →
      ((pc : ℕ) (temps : List Value) (w : TxnState) → Steps.met site image h why a.handlers (in_mode (config (inside a h) pc temps st w) (M.Leaving why)) ≡ Goes (config (with_open a hs) p [] st w)) →
      drop p (code a) ≡ y → At (with_open a hs) y [] st → Left (inside a h) why st
  goes_at a h why hs p y st meets d post =
      record { by = λ pc temps w s. stepped site image r (in_mode (config (inside a h) pc temps st w) (M.Leaving why)) st.world.txn.tape (Goes (config (with_open a hs) p [] st w)) (meets pc temps w) (post.by p w s d) }

  -- or passes what doesn't take it
  pub passes : (a : Around) (h : Handler) (why : Abrupt) (st : State) →
      ((pc : ℕ) (temps : List Value) (w : TxnState) → Steps.met site image h why a.handlers (in_mode (config (inside a h) pc temps st w) (M.Leaving why)) ≡ Goes (in_mode (config a pc [] st w) (M.Leaving why))) →
      Left a why st → Left (inside a h) why st
  passes a h why st meets post =
      record { by = λ pc temps w s. stepped site image r (in_mode (config (inside a h) pc temps st w) (M.Leaving why)) st.world.txn.tape (Goes (in_mode (config a pc [] st w) (M.Leaving why))) (meets pc temps w) (post.by pc [] w s) }

  -- ---- loops

  pub open_loop : (a : Around) (again out : ℕ) (l x y : Instrs) (st : State) → drop again l ≡ x → drop out l ≡ y →
      ((p q : ℕ) → drop p (code a) ≡ x → drop q (code a) ≡ y → At (inside a (H.Loops p q)) l [] st) → At a (I.OpenLoop again out ∷ l) [] st
  open_loop a again out l x y st e f go =
      T.first site image r a (I.OpenLoop again out) l [] st
      (λ pc w s d. (go (pc + 1 + again) (pc + 1 + out) (past pc again (code a) l x e d) (past pc out (code a) l y f d)).by (pc + 1) w s d)

  -- behind what a loop repeats
  pub loop_body : (a : Around) (p q : ℕ) (x y : Instrs) (go : Do) (res : Res (Unit {0})) → drop p (code a) ≡ x → drop q (code a) ≡ y →
      ((s : State) → GoesOn a y (go s) → At a x [] s) → GoesOn a y (looping res go) → GoesOn (inside a (H.Loops p q)) (I.Close ∷ x) res
  loop_body a p q x y go (Gives u s) d e f post = close_at a (H.Loops p q) x s (f s post)
  loop_body a p q x y go (Stops (Leaves Continues) s) d e f post = goes_at a (H.Loops p q) Continues a.handlers p x s (λ pc temps w. refl) d (f s post)
  loop_body a p q x y go (Stops (Leaves Breaks) s) d e f post = goes_at a (H.Loops p q) Breaks a.handlers q y s (λ pc temps w. refl) e post
  loop_body a p q x y go (Stops (Leaves (Throws t)) s) d e f post = passes a (H.Loops p q) (Throws t) s (λ pc temps w. refl) post
  loop_body a p q x y go (Stops (Leaves (Returns v)) s) d e f post = passes a (H.Loops p q) (Returns v) s (λ pc temps w. refl) post
  loop_body a p q x y go (Stops (Closes f0) s) d e f post = post

  -- what a loop repeats, what stands behind it, and the way back
  pub turn_at : (a : Around) (pc0 : ℕ) (condition body behind k : Instrs) (f n : Do) (go : Do) (st : State) → drop pc0 (code a) ≡ loop_to condition body behind k → Does f body → Does n behind →
      ((s : State) → GoesOn a k (go s) → At a (loop_to condition body behind k) [] s) →
      GoesOn a k (looping (f st) (λ s. bind (n s) (λ u s1. go s1))) → At a (turn_to (length condition + 1) body behind k) [] st
  turn_at a pc0 condition body behind k f n go st d does_body does_behind again post =
      open_loop a (length body + 1) (length body + (length behind + 2)) (body ++ I.Close ∷ x) x k st (turn_again m body behind k) (turn_out m body behind k)
      (λ p q dp dq. does_body (inside a (H.Loops p q)) (I.Close ∷ x) st (loop_body a p q x k (λ s. bind (n s) (λ u s1. go s1)) (f st) dp dq back post)) where
        m : ℕ
        m = length condition + 1 + (length body + (length behind + 3))

        x : Instrs
        x = behind ++ I.Back m ∷ k

        back : (s : State) → GoesOn a k (bind (n s) (λ u s1. go s1)) → At a x [] s
        back s h =
            does_behind a (I.Back m ∷ k) s
            (weaken _ _ (Stopped a) (n s) (λ u s1 g. back_at a pc0 m k (loop_to condition body behind k) s1 d (loop_length condition body behind k m) (again s1 g))
            (bound (λ u s1. At a k [] s1) (Stopped a) (n s) (λ u s1. go s1) h))

  -- one turn, its test first
  pub round_at : (condition body behind : Instrs) (t : Test) (f n go : Do) → T.Tests site image r t condition → Does f body → Does n behind → Does go (loop_code condition body behind) →
      Does (λ st. bind (charge K.Steps 1 st) (λ u s. bind (t s) (λ b s1. cond b (looping (f s1) (λ s2. bind (n s2) (λ u1 s3. go s3))) (Gives tt s1)))) (loop_code condition body behind)
  round_at condition body behind t f n go tests does_body does_behind again a k st post =
      T.at_same site image r a (loop_code condition body behind ++ k) (loop_to condition body behind k) [] st (loop_is condition body behind k)
      (record { by = λ pc0 w s d. (T.step_at site image r a (condition ++ I.Unless out ∷ turn) [] st (weaken _ _ (Stopped a) (charge K.Steps 1 st) (λ u s1 h. tested pc0 d s1 h) (bound (λ u s1. At a k [] s1) (Stopped a) (charge K.Steps 1 st) (λ u s1. rest s1) post))).by pc0 w s d }) where
        out : ℕ
        out = length body + (length behind + 3)

        turn : Instrs
        turn = turn_to (length condition + 1) body behind k

        chosen : Bool → Do
        chosen b s1 = cond b (looping (f s1) (λ s2. bind (n s2) (λ u1 s3. go s3))) (Gives tt s1)

        rest : Do
        rest s = bind (t s) chosen

        by_test : (pc0 : ℕ) → drop pc0 (code a) ≡ loop_to condition body behind k → (b : Bool) (s : State) → GoesOn a k (chosen b s) → At a (cond b turn k) [] s
        by_test pc0 d true s h =
            turn_at a pc0 condition body behind k f n go s d does_body does_behind
            (λ s1 g. T.at_same site image r a (loop_to condition body behind k) (loop_code condition body behind ++ k) [] s1 (sym (loop_is condition body behind k)) (again a k s1 g)) h
        by_test pc0 d false s h = h

        tested : (pc0 : ℕ) → drop pc0 (code a) ≡ loop_to condition body behind k → (s : State) → GoesOn a k (rest s) → At a (condition ++ I.Unless out ∷ turn) [] s
        tested pc0 d s h =
            tests a out turn k [] s (loop_out (length condition + 1) body behind k)
            (weaken _ _ (Stopped a) (t s) (λ b s1 g. by_test pc0 d b s1 g) (bound (λ u s1. At a k [] s1) (Stopped a) (t s) chosen h))

  -- ---- loops over items

  pub item_body : (a : Around) (vs : List Value) (p q m : ℕ) (x y l : Instrs) (go : Do) (res : Res (Unit {0})) → drop p (code a) ≡ x → drop q (code a) ≡ y →
      length x ≡ m + length (I.Back m ∷ l) → ((s : State) → GoesOn a y (go s) → At (inside a (H.Each vs p q)) x [] s) → GoesOn a y (looping res go) → GoesOn (inside a (H.Each vs p q)) (I.Back m ∷ l) res
  item_body a vs p q m x y l go (Gives u s) d e len f post = back_at (inside a (H.Each vs p q)) p m l x s d len (f s post)
  item_body a vs p q m x y l go (Stops (Leaves Continues) s) d e len f post = goes_at a (H.Each vs p q) Continues (H.Each vs p q ∷ a.handlers) p x s (λ pc temps w. refl) d (f s post)
  item_body a vs p q m x y l go (Stops (Leaves Breaks) s) d e len f post = goes_at a (H.Each vs p q) Breaks a.handlers q y s (λ pc temps w. refl) e post
  item_body a vs p q m x y l go (Stops (Leaves (Throws t)) s) d e len f post = passes a (H.Each vs p q) (Throws t) s (λ pc temps w. refl) post
  item_body a vs p q m x y l go (Stops (Leaves (Returns v)) s) d e len f post = passes a (H.Each vs p q) (Returns v) s (λ pc temps w. refl) post
  item_body a vs p q m x y l go (Stops (Closes f0) s) d e len f post = post

  -- a charge stops in the same way wherever it stands
  pub charge_anywhere : (a b : Around) (ok : State → Type 0) (st : State) → Holds (λ u s. ok s) (Stopped a) (charge K.Steps 1 st) → Holds (λ u s. ok s) (Stopped b) (charge K.Steps 1 st)
  charge_anywhere a b ok st post = by (fits K.Steps 1 st.world.txn.charges) post where
    by : (x : Bool) → Holds (λ u s. ok s) (Stopped a) (Save.charge_if keeps x K.Steps 1 st) → Holds (λ u s. ok s) (Stopped b) (Save.charge_if keeps x K.Steps 1 st)
    by true h = h
    by false h = h

  module _ (slot : ℕ) (how : Conversion) (f : Do) (body : Instrs) (does_body : Does f body) where
    tested : (a : Around) (p q : ℕ) (vs : List Value) (l : Instrs) (st : State) →
        Holds (λ u s. (c : Config) (pc : ℕ) (w : TxnState) → Stands a.below s w → drop (pc + 1) (code a) ≡ l →
        Comes site image r (Steps.each_item slot how (length body + 1) (H.Each vs p q) a.handlers (config (inside a (H.Each vs p q)) pc [] s w)) c s.world.txn.tape) (Stopped a) (charge K.Steps 1 st) →
        At (inside a (H.Each vs p q)) (I.Each slot how (length body + 1) ∷ l) [] st
    tested a p q vs l st post =
        T.first site image r (inside a (H.Each vs p q)) (I.Each slot how (length body + 1)) l [] st
        (λ pc w b d. T.charge_at site image r (inside a (H.Each vs p q)) K.Steps 1 st pc [] w _ (config (inside a (H.Each vs p q)) pc [] st w) b
        (weaken _ _ (Stopped (inside a (H.Each vs p q))) (charge K.Steps 1 st) (λ u s h v x. h (config (inside a (H.Each vs p q)) pc [] st w) pc v x d)
        (charge_anywhere a (inside a (H.Each vs p q)) _ st post)))

    -- the next item
    item_at : (a : Around) (p q : ℕ) (k : Instrs) (vs : List Value) → drop p (code a) ≡ items_to slot how body k → drop q (code a) ≡ k →
        ((s : State) → GoesOn a k (each slot how f vs s) → At (inside a (H.Each vs p q)) (items_to slot how body k) [] s) →
        (x : Calc) (s : State) → GoesOn a k (bind (calc x s) (λ y s1. looping (f (set_local slot y s1)) (each slot how f vs))) →
        (c : Config) (pc : ℕ) (w : TxnState) → Stands a.below s w → drop (pc + 1) (code a) ≡ body ++ I.Back (length body + 1) ∷ I.Close ∷ k →
        Comes site image r (on_calc x (config (inside a (H.Each vs p q)) pc [] s w) (λ y. next (with_local (config (inside a (H.Each vs p q)) pc [] s w) slot y) [])) c s.world.txn.tape
    item_at a p q k vs dp dq ih (Val y) s post c pc w b d =
        (does_body (inside a (H.Each vs p q)) (I.Back (length body + 1) ∷ I.Close ∷ k) (set_local slot y s)
        (item_body a vs p q (length body + 1) (items_to slot how body k) k (I.Close ∷ k) (each slot how f vs) (f (set_local slot y s)) dp dq (each_length slot how body k (length body + 1)) ih post)).by
        (pc + 1) w (T.stands_as a.below s (set_local slot y s) w refl b) d
    item_at a p q k vs dp dq ih (Fails t) s post c pc w b d = (passes a (H.Each vs p q) (Throws (Platform t)) s (λ pc temps w. refl) post).by pc [] w b

    pub items_at : (a : Around) (p q : ℕ) (k : Instrs) → drop p (code a) ≡ items_to slot how body k → drop q (code a) ≡ k → (vs : List Value) (st : State) →
        GoesOn a k (each slot how f vs st) → At (inside a (H.Each vs p q)) (items_to slot how body k) [] st
    items_at a p q k dp dq [] st post =
        tested a p q [] (body ++ I.Back (length body + 1) ∷ I.Close ∷ k) st
        (weaken _ _ (Stopped a) (charge K.Steps 1 st)
        (λ u s h c pc w b d. (close_at a (H.Each [] p q) k s h).by (pc + 1 + (length body + 1)) w b (past pc (length body + 1) (code a) (body ++ I.Back (length body + 1) ∷ I.Close ∷ k) (I.Close ∷ k) (each_end (length body + 1) body (I.Close ∷ k)) d)) post)
    items_at a p q k dp dq (v ∷ vs) st post =
        tested a p q (v ∷ vs) (body ++ I.Back (length body + 1) ∷ I.Close ∷ k) st
        (weaken _ _ (Stopped a) (charge K.Steps 1 st)
        (λ u s h c pc w b d. item_at a p q k vs dp dq (λ s1 g. items_at a p q k dp dq vs s1 g) (converted how v) s h c pc w b d)
        (bound (λ u s. At a k [] s) (Stopped a) (charge K.Steps 1 st) (λ u s. bind (calc (converted how v) s) (λ y s1. looping (f (set_local slot y s1)) (each slot how f vs))) post))

    pub each_at : (v : Value) (a : Around) (k : Instrs) (st : State) → GoesOn a k (each_of slot how f (items_of v st.world.heap) st) → At a (each_code slot how body ++ k) (v ∷ []) st
    each_at v a k st post =
        T.at_same site image r a (each_code slot how body ++ k) (I.OpenEach 0 (length body + 3) ∷ items_to slot how body k) (v ∷ []) st (each_is slot how body k)
        (T.first site image r a (I.OpenEach 0 (length body + 3)) (items_to slot how body k) (v ∷ []) st (λ pc w b d. by pc w b d (items_of v st.world.heap) post)) where
          by : (pc : ℕ) (w : TxnState) → Stands a.below st w → drop (pc + 1) (code a) ≡ items_to slot how body k → (o : Option (List Value)) → GoesOn a k (each_of slot how f o st) →
              Comes site image r (Steps.open_each o 0 (length body + 3) (config a pc (v ∷ []) st w) []) (config a pc (v ∷ []) st w) st.world.txn.tape
          by pc w b d None h = h.by pc [] w b
          by pc w b d (Some vs) h =
              (items_at a (pc + 1 + 0) (pc + 1 + (length body + 3)) k (past pc 0 (code a) (items_to slot how body k) (items_to slot how body k) refl d)
              (past pc (length body + 3) (code a) (items_to slot how body k) k (each_out slot how body k) d) vs st h).by (pc + 1) w b d

  -- ---- what runs at last

  pub hold_at : (a : Around) (h : Handler) (k : Instrs) (st : State) → At (inside a (H.Held None)) k [] st → At (inside a h) (I.Hold ∷ k) [] st
  hold_at a h k st post = T.first site image r (inside a h) I.Hold k [] st (λ pc w b d. post.by (pc + 1) w b d)

  resume_none : (a : Around) (k : Instrs) (st : State) → At a k [] st → At (inside a (H.Held None)) (I.Resume ∷ k) [] st
  resume_none a k st post = T.first site image r (inside a (H.Held None)) I.Resume k [] st (λ pc w b d. post.by (pc + 1) w b d)

  resume_some : (a : Around) (k : Instrs) (why : Abrupt) (st : State) → Left a why st → At (inside a (H.Held (Some why))) (I.Resume ∷ k) [] st
  resume_some a k why st post = T.first site image r (inside a (H.Held (Some why))) I.Resume k [] st (λ pc w b d. post.by pc [] w b)

  -- what was held is lost where its code is left
  over_held : (a : Around) (o : Option Abrupt) (why : Stop Abrupt) (st : State) → Stopped a why st → Stopped (inside a (H.Held o)) why st
  over_held a o (Leaves why) st post = passes a (H.Held o) why st (λ pc temps w. refl) post
  over_held a o (Closes f) st post = post

  after_none : (a : Around) (k : Instrs) (res : Res (Unit {0})) → GoesOn a k res → GoesOn (inside a (H.Held None)) (I.Resume ∷ k) res
  after_none a k (Gives u s) post = resume_none a k s post
  after_none a k (Stops why s) post = over_held a None why s post

  after_some : (a : Around) (k : Instrs) (why : Abrupt) (res : Res (Unit {0})) → GoesOn a k (bind res (λ u s. Stops (Leaves why) s)) → GoesOn (inside a (H.Held (Some why))) (I.Resume ∷ k) res
  after_some a k why (Gives u s) post = resume_some a k why s post
  after_some a k why (Stops x s) post = over_held a (Some why) x s post

  last_body : (a : Around) (p : ℕ) (last k : Instrs) (go : Do) (res : Res (Unit {0})) → Does go last → drop p (code a) ≡ last ++ I.Resume ∷ k →
      GoesOn a k (finally res go) → GoesOn (inside a (H.Lasts p)) (I.Hold ∷ (last ++ I.Resume ∷ k)) res
  last_body a p last k go (Gives u s) does_last d post =
      hold_at a (H.Lasts p) (last ++ I.Resume ∷ k) s (does_last (inside a (H.Held None)) (I.Resume ∷ k) s (after_none a k (go s) post))
  last_body a p last k go (Stops (Leaves why) s) does_last d post =
      goes_at a (H.Lasts p) why (H.Held (Some why) ∷ a.handlers) p (last ++ I.Resume ∷ k) s (λ pc temps w. refl) d (does_last (inside a (H.Held (Some why))) (I.Resume ∷ k) s (after_some a k why (go s) post))
  last_body a p last k go (Stops (Closes f) s) does_last d post = post

  pub finally_at : (f go : Do) (body last : Instrs) → Does f body → Does go last → Does (λ st. finally (f st) go) (finally_code (Some last) body)
  finally_at f go body last does_body does_last a k st post =
      T.at_same site image r a (finally_code (Some last) body ++ k) (I.OpenLast (length body + 1) ∷ l) [] st (finally_is body last k)
      (T.first site image r a (I.OpenLast (length body + 1)) l [] st
      (λ pc w b d. (does_body (inside a (H.Lasts (pc + 1 + (length body + 1)))) (I.Hold ∷ (last ++ I.Resume ∷ k)) st
      (last_body a (pc + 1 + (length body + 1)) last k go (f st) does_last (past pc (length body + 1) (code a) l (last ++ I.Resume ∷ k) (finally_last body (last ++ I.Resume ∷ k)) d) post)).by (pc + 1) w b d)) where
        l : Instrs
        l = body ++ I.Hold ∷ (last ++ I.Resume ∷ k)
