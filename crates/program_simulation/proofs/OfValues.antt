-- What instructions of values come to.
use Rattle.std.proofs.Common.{◌≡◌, ℕ, ◌+◌, Bool, true, false, cond, List, [], ◌∷◌, ◌++◌, length, drop, Option, None, Some, ap, ◌∙◌, append_assoc}
use Rattle.std.specs.Prelude.{slice_index_or}
use Rattle.std.proofs.Math.Seq.{drop-append_seam, drop-append-add}
use Rattle.request_states.specs.Expressions.{constant}
use Rattle.request_states.specs.States.{State, Res, charge}
use Rattle.request_states.specs.Values.{null, cell_of}
use Rattle.apex_num.specs.declared.cell.Cell.{Cell}
use Rattle.apex_num.specs.declared.cell.Cell.TheVariants as C
use Rattle.apex_num.specs.declared.kind.LimitKind.TheVariants.{Alloc}
use Rattle.apex_meaning.specs.Expressions.{parts_of}
use Rattle.apex_meaning.specs.Meanings.{Run, Behind, Test, calc, known_truth, truth_of, test}
use Rattle.apex_meaning.specs.Operations.{boolean, text_made, apply, decided, both, either, operated, chained}
use Rattle.save_meaning.proofs.Holding.{bound, weaken}
use Rattle.save_meaning.specs.Results.{Gives, bind, Holds}
use Rattle.save_meaning.specs.Sites.{Site}
use Rattle.save_meaning.specs.declared.run.TxnState.{TxnState}
use Rattle.tenant_trails.specs.Runs as Trail
use Rattle.txn_heap.specs.declared.thing.Value.{Value}
use Rattle.txn_heap.specs.declared.thing.Value.TheVariants.{Plain}
use Rattle.typed_program.specs.declared.expr.Constant.{Constant}
use Rattle.typed_program.specs.declared.expr.Conversion.{Conversion}
use Rattle.typed_program.specs.declared.expr.Number.{Number}
use Rattle.typed_program.specs.declared.expr.TypedOp.{TypedOp}
use Rattle.typed_program.specs.declared.expr.TypedOp.TheVariants as Op
use Rattle.value_operators.specs.Operators.{Calc, applied, converted, joined as texts_joined, negated, truth}
use Rattle.value_operators.specs.declared.calculated.Calculated.TheVariants.{Val, Fails}
use Rattle.stack_code.specs.Code.{constant_code, choice_code, joined, operator_code}
use Rattle.stack_code.specs.Machine.{Next, next, on_calc, on_truth}
use Rattle.stack_code.specs.Steps as Steps
use Rattle.stack_code.specs.Steps.{operator_next}
use Rattle.stack_code.specs.Things.{text_next}
use Rattle.stack_code.specs.declared.code.Instr.{Instr}
use Rattle.stack_code.specs.declared.code.Instr.TheVariants as I
use Rattle.stack_code.specs.declared.code.Slot.TheVariants as S
use Rattle.stack_code.specs.declared.image.Image.{Image}
use Rattle.program_simulation.proofs.Fetch.{past}
use Rattle.program_simulation.proofs.Simulates as Sim
use Rattle.program_simulation.proofs.Simulates.{Around, Stands, config}

-- the other truth
abbrev pub other : Bool → State → Res Value
other b s = Gives (boolean (cond b false true)) s

abbrev pub same_truth : Bool → State → Res Value
same_truth b s = Gives (boolean b) s

module _ (site : Site) (image : Image) (r : Trail.Run) where
  abbrev At : Around → List Instr → List Value → State → Type 0
  At a k temps st = Sim.At site image r a k temps st

  abbrev Puts : Run → List Instr → Type 0
  Puts f is = Sim.Puts site image r f is

  abbrev Takes : Behind → List Instr → Type 0
  Takes g is = Sim.Takes site image r g is

  -- what follows a result, at a place of a body: its value on top of others
  abbrev pub Follow : Around → List Instr → List Value → Res Value → Type 0
  Follow a k temps res = Holds (λ v s. At a k (v ∷ temps) s) (Sim.Stopped site image r a) res

  abbrev Comes : Around → ℕ → List Value → State → TxnState → Next → Type 0
  Comes a pc old st w x = Sim.Comes site image r x (config a pc old st w) st.world.txn.tape

  pub push_at : (c : Cell) → Puts (λ st. Gives (Plain c) st) (I.Push c ∷ [])
  push_at c a k temps st post = Sim.first site image r a (I.Push c) k temps st (λ pc w b d. post.by (pc + 1) w b d)

  pub constant_at : (b : Bool) (x : Constant) → Puts (constant b x) (constant_code b x)
  constant_at true x a k temps st post = push_at (cell_of x) a k temps st post
  constant_at false x a k temps st post = Sim.unbuilt_at site image r a k temps st post

  pub local_at : (x : ℕ) → Puts (λ st. Gives (slice_index_or st.here.locals x null) st) (I.Get (S.Local x) ∷ [])
  local_at x a k temps st post = Sim.first site image r a (I.Get (S.Local x)) k temps st (λ pc w b d. post.by (pc + 1) w b d)

  pub this_at : Puts (λ st. Gives st.here.this st) (I.This ∷ [])
  this_at a k temps st post = Sim.first site image r a I.This k temps st (λ pc w b d. post.by (pc + 1) w b d)

  -- a value, or what is thrown in its place
  pub calc_at : (a : Around) (x : Calc) (k : List Instr) (temps old : List Value) (st : State) (pc : ℕ) (w : TxnState) → Stands a.below st w → drop (pc + 1) (Sim.code image a) ≡ k → Follow a k temps (calc x st) →
      Comes a pc old st w (on_calc x (config a pc old st w) (λ v. next (config a pc old st w) (v ∷ temps)))
  calc_at a (Val v) k temps old st pc w b d post = post.by (pc + 1) w b d
  calc_at a (Fails t) k temps old st pc w b d post = post.by pc [] w b

  pub converted_at : (how : Conversion) → Takes (λ v st. calc (converted how v) st) (I.Convert how ∷ [])
  converted_at how a v k temps st post =
      Sim.first site image r a (I.Convert how) k (v ∷ temps) st (λ pc w b d. calc_at a (converted how v) k temps (v ∷ temps) st pc w b d post)

  pub negate_at : (n : Number) → Takes (λ v st. calc (negated n v) st) (I.Negate n ∷ [])
  negate_at n a v k temps st post =
      Sim.first site image r a (I.Negate n) k (v ∷ temps) st (λ pc w b d. calc_at a (negated n v) k temps (v ∷ temps) st pc w b d post)

  -- ---- truths

  not_by : (a : Around) (o : Option Bool) (k : List Instr) (temps old : List Value) (st : State) (pc : ℕ) (w : TxnState) → Stands a.below st w → drop (pc + 1) (Sim.code image a) ≡ k → Follow a k temps (bind (known_truth o st) other) →
      Comes a pc old st w (on_truth o (config a pc old st w) (λ b. next (config a pc old st w) (Plain (C.Bool (cond b false true)) ∷ temps)))
  not_by a None k temps old st pc w b d post = post.by pc [] w b
  not_by a (Some x) k temps old st pc w b d post = post.by (pc + 1) w b d

  pub not_at : Takes (λ v st. bind (truth_of v st) other) (I.Not ∷ [])
  not_at a v k temps st post = Sim.first site image r a I.Not k (v ∷ temps) st (λ pc w b d. not_by a (truth v) k temps (v ∷ temps) st pc w b d post)

  truth_by : (a : Around) (o : Option Bool) (k : List Instr) (temps old : List Value) (st : State) (pc : ℕ) (w : TxnState) → Stands a.below st w → drop (pc + 1) (Sim.code image a) ≡ k → Follow a k temps (bind (known_truth o st) same_truth) →
      Comes a pc old st w (on_truth o (config a pc old st w) (λ b. next (config a pc old st w) (Plain (C.Bool b) ∷ temps)))
  truth_by a None k temps old st pc w b d post = post.by pc [] w b
  truth_by a (Some x) k temps old st pc w b d post = post.by (pc + 1) w b d

  pub truth_at : Takes (λ v st. bind (truth_of v st) same_truth) (I.Truth ∷ [])
  truth_at a v k temps st post = Sim.first site image r a I.Truth k (v ∷ temps) st (λ pc w b d. truth_by a (truth v) k temps (v ∷ temps) st pc w b d post)

  -- a condition, with what chooses by it
  unless_by : (a : Around) (o : Option Bool) (n : ℕ) (k l : List Instr) (temps old : List Value) (st : State) (pc : ℕ) (w : TxnState) → Stands a.below st w → drop (pc + 1) (Sim.code image a) ≡ k → drop n k ≡ l →
      Holds (λ x s. At a (cond x k l) temps s) (Sim.Stopped site image r a) (known_truth o st) → Comes a pc old st w (on_truth o (config a pc old st w) (Steps.unless n (config a pc old st w) temps))
  unless_by a None n k l temps old st pc w b d e post = post.by pc [] w b
  unless_by a (Some true) n k l temps old st pc w b d e post = post.by (pc + 1) w b d
  unless_by a (Some false) n k l temps old st pc w b d e post = post.by (pc + 1 + n) w b (past pc n (Sim.code image a) k l e d)

  pub tests_at : (f : Run) (is : List Instr) → Puts f is → Sim.Tests site image r (test f) is
  tests_at f is p a n k l temps st e post =
      p a (I.Unless n ∷ k) temps st
      (weaken _ _ (Sim.Stopped site image r a) (f st) (λ v s h. Sim.first site image r a (I.Unless n) k (v ∷ temps) s (λ pc w b d. unless_by a (truth v) n k l temps (v ∷ temps) s pc w b d e h))
      (bound (λ x s. At a (cond x k l) temps s) (Sim.Stopped site image r a) (f st) truth_of post))

  -- ---- operators

  -- a text that is charged first
  pub text_at : (a : Around) (text : List ℕ) (k : List Instr) (temps old : List Value) (st : State) (pc : ℕ) (w : TxnState) → Stands a.below st w → drop (pc + 1) (Sim.code image a) ≡ k → Follow a k temps (text_made text st) →
      Comes a pc old st w (text_next text (config a pc old st w) temps)
  text_at a text k temps old st pc w b d post =
      Sim.charge_at site image r a Alloc (16 + length text) st pc old w _ (config a pc old st w) b
      (weaken _ _ (Sim.Stopped site image r a) (charge Alloc (16 + length text) st) (λ u s h v x. h.by (pc + 1) v x d)
      (bound (λ v s. At a k (v ∷ temps) s) (Sim.Stopped site image r a) (charge Alloc (16 + length text) st) (λ u s. Gives (Plain (C.Text text)) s) post))

  operator_at : (a : Around) (left : Conversion) (op : TypedOp) (right : Conversion) (v x : Value) (k : List Instr) (temps old : List Value) (st : State) (pc : ℕ) (w : TxnState) → Stands a.below st w → drop (pc + 1) (Sim.code image a) ≡ k →
      Follow a k temps (apply left op right v x st) → Comes a pc old st w (operator_next left op right v x (config a pc old st w) temps)
  operator_at a left Op.Join right v x k temps old st pc w b d post = text_at a (texts_joined v x) k temps old st pc w b d post
  operator_at a left (Op.Arithmetic o n) right v x k temps old st pc w b d post = calc_at a (applied left (Op.Arithmetic o n) right v x) k temps old st pc w b d post
  operator_at a left Op.Equal right v x k temps old st pc w b d post = calc_at a (applied left Op.Equal right v x) k temps old st pc w b d post
  operator_at a left Op.Differs right v x k temps old st pc w b d post = calc_at a (applied left Op.Differs right v x) k temps old st pc w b d post
  operator_at a left (Op.Order o) right v x k temps old st pc w b d post = calc_at a (applied left (Op.Order o) right v x) k temps old st pc w b d post
  operator_at a left Op.And right v x k temps old st pc w b d post = calc_at a (applied left Op.And right v x) k temps old st pc w b d post
  operator_at a left Op.Or right v x k temps old st pc w b d post = calc_at a (applied left Op.Or right v x) k temps old st pc w b d post

  -- an operator on two values
  pub apply_at : (a : Around) (left : Conversion) (op : TypedOp) (right : Conversion) (v x : Value) (k : List Instr) (temps : List Value) (st : State) → Follow a k temps (apply left op right v x st) → At a (I.Calc left op right ∷ k) (x ∷ v ∷ temps) st
  apply_at a left op right v x k temps st post =
      Sim.first site image r a (I.Calc left op right) k (x ∷ v ∷ temps) st (λ pc w b d. operator_at a left op right v x k temps (x ∷ v ∷ temps) st pc w b d post)

  -- the right operand, and then the operator
  operation_at : (left : Conversion) (op : TypedOp) (right : Conversion) (f : Run) (is : List Instr) → Puts f is → Takes (λ v st. bind (f st) (λ x s. apply left op right v x s)) (is ++ I.Calc left op right ∷ [])
  operation_at left op right f is p a v k temps st post =
      Sim.again_at site image r a is (I.Calc left op right ∷ []) k (v ∷ temps) st
      (p a (I.Calc left op right ∷ k) (v ∷ temps) st
      (weaken _ _ (Sim.Stopped site image r a) (f st) (λ x s h. apply_at a left op right v x k temps s h) (bound (λ y s. At a k (y ∷ temps) s) (Sim.Stopped site image r a) (f st) (λ x s. apply left op right v x s) post)))

  -- the right operand of `&&` and `||`
  decided_at : (f : Run) (is : List Instr) → Puts f is → Puts (decided f) (is ++ I.Truth ∷ [])
  decided_at f is p = Sim.puts_then site image r f (λ v st. bind (truth_of v st) same_truth) is (I.Truth ∷ []) p truth_at

  behind : (is k : List Instr) (i : Instr) → drop (length is + 1) ((is ++ i ∷ []) ++ k) ≡ k
  behind is k i = ap (λ l. drop (length is + 1) l) (append_assoc is (i ∷ []) k) ∙ drop-append-add is (i ∷ k) 1

  both_by : (f : Run) (is : List Instr) → Puts f is → (a : Around) (o : Option Bool) (k : List Instr) (temps old : List Value) (st : State) (pc : ℕ) (w : TxnState) → Stands a.below st w → drop (pc + 1) (Sim.code image a) ≡ (is ++ I.Truth ∷ []) ++ k →
      Follow a k temps (bind (known_truth o st) (both f)) → Comes a pc old st w (on_truth o (config a pc old st w) (Steps.both (length is + 1) (config a pc old st w) temps))
  both_by f is p a None k temps old st pc w b d post = post.by pc [] w b
  both_by f is p a (Some true) k temps old st pc w b d post = (decided_at f is p a k temps st post).by (pc + 1) w b d
  both_by f is p a (Some false) k temps old st pc w b d post = post.by (pc + 1 + (length is + 1)) w b (past pc (length is + 1) (Sim.code image a) ((is ++ I.Truth ∷ []) ++ k) k (behind is k I.Truth) d)

  either_by : (f : Run) (is : List Instr) → Puts f is → (a : Around) (o : Option Bool) (k : List Instr) (temps old : List Value) (st : State) (pc : ℕ) (w : TxnState) → Stands a.below st w → drop (pc + 1) (Sim.code image a) ≡ (is ++ I.Truth ∷ []) ++ k →
      Follow a k temps (bind (known_truth o st) (either f)) → Comes a pc old st w (on_truth o (config a pc old st w) (Steps.either (length is + 1) (config a pc old st w) temps))
  either_by f is p a None k temps old st pc w b d post = post.by pc [] w b
  either_by f is p a (Some true) k temps old st pc w b d post = post.by (pc + 1 + (length is + 1)) w b (past pc (length is + 1) (Sim.code image a) ((is ++ I.Truth ∷ []) ++ k) k (behind is k I.Truth) d)
  either_by f is p a (Some false) k temps old st pc w b d post = (decided_at f is p a k temps st post).by (pc + 1) w b d

  pub operand_at : (left : Conversion) (op : TypedOp) (right : Conversion) (f : Run) (is : List Instr) → Puts f is → Takes (operated left op right f) (operator_code left op right is)
  operand_at left Op.And right f is p a v k temps st post =
      Sim.first site image r a (I.Both (length is + 1)) ((is ++ I.Truth ∷ []) ++ k) (v ∷ temps) st (λ pc w b d. both_by f is p a (truth v) k temps (v ∷ temps) st pc w b d post)
  operand_at left Op.Or right f is p a v k temps st post =
      Sim.first site image r a (I.Either (length is + 1)) ((is ++ I.Truth ∷ []) ++ k) (v ∷ temps) st (λ pc w b d. either_by f is p a (truth v) k temps (v ∷ temps) st pc w b d post)
  operand_at left Op.Join right f is p a v k temps st post = operation_at left Op.Join right f is p a v k temps st post
  operand_at left (Op.Arithmetic o n) right f is p a v k temps st post = operation_at left (Op.Arithmetic o n) right f is p a v k temps st post
  operand_at left Op.Equal right f is p a v k temps st post = operation_at left Op.Equal right f is p a v k temps st post
  operand_at left Op.Differs right f is p a v k temps st post = operation_at left Op.Differs right f is p a v k temps st post
  operand_at left (Op.Order o) right f is p a v k temps st post = operation_at left (Op.Order o) right f is p a v k temps st post

  -- ---- chains and choices

  -- one code for each
  abbrev pub AllTake : List Behind → List (List Instr) → Type 0
  AllTake [] [] = Unit {0}
  AllTake [] (c ∷ cs) = ⊥
  AllTake (g ∷ gs) [] = ⊥
  AllTake (g ∷ gs) (c ∷ cs) = Takes g c × AllTake gs cs

  pub chain_at : (gs : List Behind) (cs : List (List Instr)) → AllTake gs cs → Takes (chained gs) (joined cs)
  chain_at [] [] h = λ a v k temps st post. post
  chain_at [] (c ∷ cs) h = absurd h
  chain_at (g ∷ gs) [] h = absurd h
  chain_at (g ∷ gs) (c ∷ cs) h = Sim.takes_then site image r g (chained gs) c (joined cs) h.0 (chain_at gs cs h.1)

  pub parts_at : (gs : List Behind) (cs : List (List Instr)) → AllTake gs cs → Takes (parts_of gs) (joined cs)
  parts_at [] [] h = λ a v k temps st post. post
  parts_at [] (c ∷ cs) h = absurd h
  parts_at (g ∷ gs) [] h = absurd h
  parts_at (g ∷ gs) (c ∷ cs) h = Sim.takes_then site image r g (parts_of gs) c (joined cs) h.0 (parts_at gs cs h.1)

  choice_at : (go : Bool → Run) (is js : List Instr) → Puts (go true) is → Puts (go false) js → (a : Around) (b : Bool) (k : List Instr) (temps : List Value) (s : State) → Follow a k temps (go b s) → At a (cond b (is ++ I.Jump (length js) ∷ (js ++ k)) (js ++ k)) temps s
  choice_at go is js p q a true k temps s post =
      p a (I.Jump (length js) ∷ (js ++ k)) temps s (weaken _ _ (Sim.Stopped site image r a) (go true s) (λ v s1 h. Sim.jump_at site image r a (length js) (js ++ k) k (v ∷ temps) s1 (drop-append_seam js k) h) post)
  choice_at go is js p q a false k temps s post = q a k temps s post

  -- by a condition
  pub chosen_at : (t : Test) (go : Bool → Run) (cs is js : List Instr) → Sim.Tests site image r t cs → Puts (go true) is → Puts (go false) js → Puts (λ st. bind (t st) go) (cs ++ choice_code is js)
  chosen_at t go cs is js h p q a k temps st post =
      Sim.again_at site image r a cs (choice_code is js) k temps st
      (Sim.at_same site image r a (cs ++ (choice_code is js ++ k)) (cs ++ I.Unless (length is + 1) ∷ (is ++ I.Jump (length js) ∷ (js ++ k))) temps st (ap (λ l. cs ++ I.Unless (length is + 1) ∷ l) (append_assoc is (I.Jump (length js) ∷ js) k))
      (h a (length is + 1) (is ++ I.Jump (length js) ∷ (js ++ k)) (js ++ k) temps st (drop-append-add is (I.Jump (length js) ∷ (js ++ k)) 1)
      (weaken _ _ (Sim.Stopped site image r a) (t st) (λ b s x. choice_at go is js p q a b k temps s x) (bound (λ v s. At a k (v ∷ temps) s) (Sim.Stopped site image r a) (t st) go post))))
