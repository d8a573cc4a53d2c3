-- Code that keeps a request in order, where its ways back in are paid for.
use Rattle.std.proofs.Common.{◌≡◌, ℕ, suc, ◌+◌, ◌<◌, ◌≤◌, Bool, true, false, cond, List, [], ◌∷◌, Option, None, Some, refl, sym, true≢false, arith}
use Rattle.std.proofs.lemmas.Bool.{leb-false}
use Rattle.activations.specs.declared.abrupt.Abrupt.TheVariants.{Throws, Returns, Breaks, Continues}
use Rattle.activations.specs.declared.here.Here.{Here}
use Rattle.apex_num.specs.declared.kind.LimitKind.{LimitKind}
use Rattle.apex_num.specs.declared.kind.LimitKind.TheVariants.{Steps, Alloc, Calls}
use Rattle.limit_meter.specs.Charges.{fits, limit_of}
use Rattle.platform_errors.specs.declared.thrown.Thrown.{Thrown}
use Rattle.save_meaning.specs.Results as R
use Rattle.save_meaning.specs.Results.{Finish, Halts, Needs, Unfinished, Unbuilt, Stop, Gives, Stops, Leaves, Closes, bind, leaving, leaves_as, Holds}
use Rattle.save_meaning.specs.Transactions as Save
use Rattle.save_meaning.specs.Transactions.{left}
use Rattle.request_states.specs.States.{World, State, Res, charge, keeps, throws, make}
use Rattle.txn_heap.specs.declared.thing.Thing.{Thing}
use Rattle.typed_program.specs.declared.program.Program.{Program}
use Rattle.value_operators.specs.Operators.{Calc}
use Rattle.value_operators.specs.declared.calculated.Calculated.TheVariants.{Val, Fails}
use Rattle.apex_meaning.specs.Meanings.{Do, Run, all_do, all_of, dropped, calc, known_truth, truth_of, test, back, in_here, returned, no_longer_open, called, looping, finally}
use Rattle.language_laws.specs.Limits.{Passed, by_ones}
use Rattle.language_laws.proofs.Worlds.{Sound, spent, most_spent, spent_at_most, Later, later_same, later_kept, later_on, later_charged, left_calls, later_left, spends_steps, spends_units}

module _ (program : Program) where
  -- what holds of an end, where code began in the first world
  abbrev pub Closed : World → Finish → World → Type 0
  Closed w (Halts k n) v = Later program w v × Passed k n v.txn.charges
  Closed w (Needs q) v = Later program w v
  Closed w Unfinished v = ⊥
  Closed w Unbuilt v = Later program w v

  abbrev pub Ended : {E : Type 0} → World → Stop E → State → Type 0
  Ended w (Leaves why) s = Later program w s.world
  Ended w (Closes f) s = Closed w f s.world

  pub record Comes {E A : Type 0} (w : World) (res : R.Res State E A) : Type 0 where
    pub holds : Holds (λ a s. Later program w s.world) (Ended w) res

  closed_on : (u w v : World) (f : Finish) → Later program u w → Closed w f v → Closed u f v
  closed_on u w v (Halts k n) h c = (later_on program u w v h c.0, c.1)
  closed_on u w v (Needs q) h c = later_on program u w v h c
  closed_on u w v Unfinished h c = c
  closed_on u w v Unbuilt h c = later_on program u w v h c

  pub comes_on : {E A : Type 0} (u w : World) (res : R.Res State E A) → Later program u w → Comes w res → Comes u res
  comes_on u w (Gives a s) h c = record { holds = later_on program u w s.world h c.holds }
  comes_on u w (Stops (Leaves why) s) h c = record { holds = later_on program u w s.world h c.holds }
  comes_on u w (Stops (Closes f) s) h c = record { holds = closed_on u w s.world f h c.holds }

  pub comes_bind : {E A B : Type 0} (w : World) (res : R.Res State E A) (go : A → State → R.Res State E B) → Comes w res → ((a : A) (s : State) → Later program w s.world → Comes w (go a s)) → Comes w (bind res go)
  comes_bind w (Gives a s) go c f = f a s c.holds
  comes_bind w (Stops why s) go c f = record { holds = c.holds }

  -- from where less than n is left to pay with
  pub record Paid {E A : Type 0} (n : ℕ) (f : State → R.Res State E A) : Type 0 where
    pub at : (st : State) → Sound st.world.txn.charges → most_spent program < n + spent program st.world → Comes st.world (f st)

  pub paid_at : {E A : Type 0} (n : ℕ) (f : State → R.Res State E A) (u : World) (st : State) → Paid n f → most_spent program < n + spent program u → Later program u st.world → Comes u (f st)
  paid_at n f u st h lt l = let e = l.spent in comes_on u st.world (f st) l (h.at st l.sound (omega arith))

  pub paid_gives : {E A : Type 0} (n : ℕ) (a : State → A) → Paid {E = E} n (λ st. Gives (a st) st)
  paid_gives n a = record { at = λ st h lt. record { holds = later_same program st.world h } }

  pub paid_leaves : {E A : Type 0} (n : ℕ) (why : State → E) → Paid {A = A} n (λ st. Stops (Leaves (why st)) st)
  paid_leaves n why = record { at = λ st h lt. record { holds = later_same program st.world h } }

  pub paid_unbuilt : {E A : Type 0} (n : ℕ) → Paid {E = E} {A = A} n (λ st. Stops (Closes Unbuilt) st)
  paid_unbuilt n = record { at = λ st h lt. record { holds = later_same program st.world h } }

  -- with a state that is later
  pub paid_puts : {E A : Type 0} (n : ℕ) (a : State → A) (g : State → State) → ((st : State) → Sound st.world.txn.charges → Later program st.world (g st).world) → Paid {E = E} n (λ st. Gives (a st) (g st))
  paid_puts n a g f = record { at = λ st h lt. record { holds = f st h } }

  pub paid_bind : {E A B : Type 0} (n : ℕ) (f : State → R.Res State E A) (go : A → State → R.Res State E B) → Paid n f → ((a : A) → Paid n (go a)) → Paid n (λ st. bind (f st) go)
  paid_bind n f go h k = record { at = λ st s lt. comes_bind st.world (f st) go (h.at st s lt) (λ a s1 l. paid_at n (go a) st.world s1 (k a) lt l) }

  -- before a state that is later, with the same charges and statics
  pub paid_before : {E A : Type 0} (n : ℕ) (g : State → State) (f : State → R.Res State E A) → ((st : State) → Sound st.world.txn.charges → Later program st.world (g st).world) → Paid n f → Paid n (λ st. f (g st))
  paid_before n g f l h = record { at = λ st s lt. paid_at n f st.world (g st) h lt (l st s) }

  pub paid_less : {E A : Type 0} (m n : ℕ) (f : State → R.Res State E A) → m ≤ n → Paid n f → Paid m f
  paid_less m n f le h = record { at = λ st s lt. h.at st s (omega arith) }

  -- nothing is left to pay with
  pub paid_none : {E A : Type 0} (f : State → R.Res State E A) → Paid 0 f
  paid_none f = record { at = λ st s lt. let e = spent_at_most program st.world s in absurd (omega arith) }

  -- ---- charges

  -- nothing is said of the others
  pub freely : {n : ℕ} → false ≡ true → n ≡ 1
  freely e = absurd (true≢false (sym e))

  -- what is charged one by one is charged by one
  abbrev pub Singly : LimitKind → ℕ → Type 0
  Singly k n = by_ones k ≡ true → n ≡ 1

  is_full : (c n most : ℕ) → most < c + n → n ≡ 1 → c ≤ most → c ≡ most
  is_full c n most lt e le = omega arith

  charge_comes : {E : Type 0} (k : LimitKind) (n : ℕ) (st : State) (b : Bool) → Singly k n → fits k n st.world.txn.charges ≡ b → Sound st.world.txn.charges → Comes {E = E} st.world (Save.charge_if keeps b k n st)
  charge_comes k n st true one e h = record { holds = later_charged program st.world k n e h }
  charge_comes k n st false one e h =
      record { holds = (later_same program st.world h, record { named = refl; full = λ ones. is_full _ n (limit_of k) (leb-false _ _ e) (one ones) (h.within k) }) }

  pub paid_charge : {E : Type 0} (m : ℕ) (k : LimitKind) (n : ℕ) → Singly k n → Paid {E = E} m (Save.charge keeps k n)
  paid_charge m k n one = record { at = λ st h lt. charge_comes k n st (fits k n st.world.txn.charges) one refl h }

  -- the charge of as many as there are in the state
  pub paid_charge_of : {E : Type 0} (m : ℕ) (k : LimitKind) (n : State → ℕ) → ((st : State) → Singly k (n st)) → Paid {E = E} m (λ st. Save.charge keeps k (n st) st)
  paid_charge_of m k n one = record { at = λ st h lt. charge_comes k (n st) st (fits k (n st) st.world.txn.charges) (one st) refl h }

  step_comes : {E A : Type 0} (m n : ℕ) (f : State → R.Res State E A) (st : State) (b : Bool) → 1 ≤ n → fits Steps n st.world.txn.charges ≡ b → Sound st.world.txn.charges → most_spent program < suc m + spent program st.world → Paid m f → Comes st.world (bind (Save.charge_if keeps b Steps n st) (λ u s. f s))
  step_comes m n f st true le e h lt p =
      let s = later_charged program st.world Steps n e h in
      let more = spends_steps program st.world n le in
      comes_on _ _ _ s (p.at _ s.sound (omega arith))
  step_comes {E = E} m n f st false le e h lt p = record { holds = (charge_comes {E = E} Steps n st false freely e h).holds }

  -- a step pays for one round
  pub paid_step : {E A : Type 0} (m : ℕ) (f : State → R.Res State E A) → Paid m f → Paid (suc m) (λ st. bind (Save.charge keeps Steps 1 st) (λ u s. f s))
  paid_step m f p = record { at = λ st h lt. step_comes m 1 f st (fits Steps 1 st.world.txn.charges) (omega arith) refl h lt p }

  unit_comes : {E A : Type 0} (m n : ℕ) (f : State → R.Res State E A) (st : State) (b : Bool) → 1 ≤ n → fits Alloc n st.world.txn.charges ≡ b → Sound st.world.txn.charges → most_spent program < suc m + spent program st.world → Paid m f → Comes st.world (bind (Save.charge_if keeps b Alloc n st) (λ u s. f s))
  unit_comes m n f st true le e h lt p =
      let s = later_charged program st.world Alloc n e h in
      let more = spends_units program st.world n le in
      comes_on _ _ _ s (p.at _ s.sound (omega arith))
  unit_comes {E = E} m n f st false le e h lt p = record { holds = (charge_comes {E = E} Alloc n st false freely e h).holds }

  -- and so do allocation units
  pub paid_units : {E A : Type 0} (m n : ℕ) (f : State → R.Res State E A) → 1 ≤ n → Paid m f → Paid (suc m) (λ st. bind (Save.charge keeps Alloc n st) (λ u s. f s))
  paid_units m n f le p = record { at = λ st h lt. unit_comes m n f st (fits Alloc n st.world.txn.charges) le refl h lt p }

  -- ---- what leaves as something else

  leaving_comes : {E F A : Type 0} (g : E → F) (w : World) (res : R.Res State E A) → Comes w res → Comes w (leaving g res)
  leaving_comes g w (Gives a s) c = record { holds = c.holds }
  leaving_comes g w (Stops (Leaves e) s) c = record { holds = c.holds }
  leaving_comes g w (Stops (Closes f) s) c = record { holds = c.holds }

  pub paid_leaving : {E F A : Type 0} (n : ℕ) (g : E → F) (f : State → R.Res State E A) → Paid n f → Paid n (λ st. leaving g (f st))
  paid_leaving n g f h = record { at = λ st s lt. leaving_comes g st.world (f st) (h.at st s lt) }

  -- ---- parts

  pub paid_throws : {A : Type 0} (n : ℕ) (t : Thrown) → Paid {A = A} n (λ st. throws t st)
  paid_throws n t = record { at = λ st h lt. record { holds = later_same program st.world h } }

  pub paid_dropped : (n : ℕ) (f : Run) → Paid n f → Paid n (λ st. dropped (f st))
  paid_dropped n f h = paid_bind n f (λ v s. Gives tt s) h (λ v. paid_gives n (λ s. tt))

  pub paid_calc : (n : ℕ) (c : Calc) → Paid n (calc c)
  paid_calc n (Val v) = record { at = λ st h lt. record { holds = later_same program st.world h } }
  paid_calc n (Fails t) = record { at = λ st h lt. record { holds = later_same program st.world h } }

  pub paid_known : (n : ℕ) (b : Option Bool) → Paid n (known_truth b)
  paid_known n None = record { at = λ st h lt. record { holds = later_same program st.world h } }
  paid_known n (Some b) = record { at = λ st h lt. record { holds = later_same program st.world h } }

  pub paid_test : (n : ℕ) (e : Run) → Paid n e → Paid n (test e)
  paid_test n e h = paid_bind n e truth_of h (λ v. paid_known n _)

  pub paid_make : (n : ℕ) (thing : Thing) → Paid n (make thing)
  paid_make n thing = record { at = λ st h lt. record { holds = later_kept program st.world _ h refl refl refl } }

  pub paid_cond : {E A : Type 0} (n : ℕ) (b : Bool) (f g : State → R.Res State E A) → Paid n f → Paid n g → Paid n (λ st. cond b (f st) (g st))
  paid_cond n true f g h k = h
  paid_cond n false f g h k = k

  -- ---- activations

  back_comes : {A : Type 0} (w : World) (h : Here) (res : Res A) → Comes w res → Comes w (back h res)
  back_comes w h (Gives a s) c = record { holds = c.holds }
  back_comes w h (Stops (Leaves why) s) c = record { holds = c.holds }
  back_comes w h (Stops (Closes f) s) c = record { holds = c.holds }

  pub paid_in : {A : Type 0} (n : ℕ) (here : State → Here) (f : State → Res A) → Paid n f → Paid n (λ st. in_here (here st) f st)
  paid_in n here f p = record { at = λ st h lt. back_comes st.world st.here _ (p.at (record st { here = here st }) h lt) }

  returned_comes : (w : World) (res : Res (Unit {0})) → Comes w res → Comes w (returned res)
  returned_comes w (Gives u s) c = record { holds = c.holds }
  returned_comes w (Stops (Leaves (Returns v)) s) c = record { holds = c.holds }
  returned_comes w (Stops (Leaves (Throws r)) s) c = record { holds = c.holds }
  returned_comes w (Stops (Leaves Breaks) s) c = record { holds = c.holds }
  returned_comes w (Stops (Leaves Continues) s) c = record { holds = c.holds }
  returned_comes w (Stops (Closes f) s) c = record { holds = c.holds }

  pub paid_returned : (n : ℕ) (f : Do) → Paid n f → Paid n (λ st. returned (f st))
  paid_returned n f h = record { at = λ st s lt. returned_comes st.world (f st) (h.at st s lt) }

  open_comes : {A : Type 0} (w : World) (res : Res A) → Comes w res → Comes w (no_longer_open res)
  open_comes w (Gives a s) c = let l = c.holds in record { holds = later_on program _ _ _ l (later_left program s.world Calls left_calls l.sound) }
  open_comes w (Stops (Leaves why) s) c = let l = c.holds in record { holds = later_on program _ _ _ l (later_left program s.world Calls left_calls l.sound) }
  open_comes w (Stops (Closes f) s) c = record { holds = c.holds }

  paid_open : {A : Type 0} (n : ℕ) (f : State → Res A) → Paid n f → Paid n (λ st. no_longer_open (f st))
  paid_open n f h = record { at = λ st s lt. open_comes st.world (f st) (h.at st s lt) }

  -- a call of a declared method or constructor pays for what it runs
  pub paid_called : (n : ℕ) (go : Run) → Paid n go → Paid (suc n) (called go)
  paid_called n go h = paid_bind (suc n) (charge Calls 1) (λ u s. bind (charge Steps 1 s) (λ u1 s1. no_longer_open (go s1))) (paid_charge (suc n) Calls 1 (λ ones. refl)) (λ u. paid_step n (λ s1. no_longer_open (go s1)) (paid_open n go h))

  -- ---- lists of parts

  pub data Each {E A : Type 0} (n : ℕ) : List (State → R.Res State E A) → Type 0 where
    none : Each n []
    more : {f : State → R.Res State E A} {fs : List (State → R.Res State E A)} → Paid n f → Each n fs → Each n (f ∷ fs)

  pub paid_all_do : (n : ℕ) (fs : List Do) → Each n fs → Paid n (all_do fs)
  paid_all_do n [] none = record { at = λ st h lt. record { holds = later_same program st.world h } }
  paid_all_do n (f ∷ fs) (more p ps) = paid_bind n f (λ u s. all_do fs s) p (λ u. paid_all_do n fs ps)

  pub paid_all_of : (n : ℕ) (fs : List Run) → Each n fs → Paid n (all_of fs)
  paid_all_of n [] none = record { at = λ st h lt. record { holds = later_same program st.world h } }
  paid_all_of n (f ∷ fs) (more p ps) =
      paid_bind n f (λ v s. bind (all_of fs s) (λ vs s1. Gives (v ∷ vs) s1)) p
      (λ v. paid_bind n (all_of fs) (λ vs s1. Gives (v ∷ vs) s1) (paid_all_of n fs ps) (λ vs. paid_gives n (λ s1. v ∷ vs)))

  -- ---- loops and `finally`

  looping_comes : (n : ℕ) (w : World) (res : Res (Unit {0})) (go : Do) → Comes w res → most_spent program < n + spent program w → Paid n go → Comes w (looping res go)
  looping_comes n w (Gives u s) go c lt p = paid_at n go w s p lt c.holds
  looping_comes n w (Stops (Leaves Continues) s) go c lt p = paid_at n go w s p lt c.holds
  looping_comes n w (Stops (Leaves Breaks) s) go c lt p = record { holds = c.holds }
  looping_comes n w (Stops (Leaves (Throws r)) s) go c lt p = record { holds = c.holds }
  looping_comes n w (Stops (Leaves (Returns v)) s) go c lt p = record { holds = c.holds }
  looping_comes n w (Stops (Closes f) s) go c lt p = record { holds = c.holds }

  pub paid_looping : (n : ℕ) (f go : Do) → Paid n f → Paid n go → Paid n (λ st. looping (f st) go)
  paid_looping n f go p q = record { at = λ st h lt. looping_comes n st.world (f st) go (p.at st h lt) lt q }

  finally_comes : (n : ℕ) (w : World) (res : Res (Unit {0})) (go : Do) → Comes w res → most_spent program < n + spent program w → Paid n go → Comes w (finally res go)
  finally_comes n w (Gives u s) go c lt p = paid_at n go w s p lt c.holds
  finally_comes n w (Stops (Leaves why) s) go c lt p =
      comes_bind w (go s) (λ u s1. Stops (Leaves why) s1) (paid_at n go w s p lt c.holds) (λ u s1 l. record { holds = l })
  finally_comes n w (Stops (Closes f) s) go c lt p = record { holds = c.holds }

  pub paid_finally : (n : ℕ) (f go : Do) → Paid n f → Paid n go → Paid n (λ st. finally (f st) go)
  paid_finally n f go p q = record { at = λ st h lt. finally_comes n st.world (f st) go (p.at st h lt) lt q }
