-- The code of every statement does what the statement means.
use Rattle.std.proofs.Common.{◌≡◌, ℕ, ◌+◌, Bool, true, false, List, [], ◌∷◌, ◌++◌, length, map, Option, None, Some, refl, sym, ap, ◌∙◌, subst}
use Rattle.std.specs.Prelude.{cond}
use Rattle.std.proofs.Math.Seq.{drop-append_seam}
use Rattle.activations.specs.declared.abrupt.Abrupt.{Abrupt}
use Rattle.activations.specs.declared.abrupt.Abrupt.TheVariants.{Returns, Breaks, Continues}
use Rattle.request_states.specs.Runs.{Setting, site_of}
use Rattle.request_states.specs.Statements.{op_of, records_of, save_these}
use Rattle.request_states.specs.States.{State, Res, charge, set_local}
use Rattle.request_states.specs.Values.{null}
use Rattle.apex_num.specs.declared.cell.Cell.TheVariants as C
use Rattle.apex_num.specs.declared.kind.LimitKind.TheVariants as K
use Rattle.apex_syntax.specs.declared.stmt.DmlOp.{DmlOp}
use Rattle.apex_meaning.specs.Collections.{items_of}
use Rattle.apex_meaning.specs.Exceptions as E
use Rattle.apex_meaning.specs.Expressions.{value_of}
use Rattle.apex_meaning.specs.Firings.{code_of}
use Rattle.apex_meaning.specs.Meanings.{Again, Do, Run, Test, all_do, looping, test}
use Rattle.apex_meaning.specs.Statements as D
use Rattle.save_meaning.specs.Results.{Gives, Stops, Stop, Leaves, bind}
use Rattle.save_meaning.specs.Sites.{Site}
use Rattle.save_meaning.proofs.Holding.{bound, weaken}
use Rattle.tenant_trails.specs.Runs as Trail
use Rattle.txn_heap.specs.declared.thing.Value.{Value}
use Rattle.txn_heap.specs.declared.thing.Value.TheVariants.{Plain, Object}
use Rattle.typed_program.specs.declared.expr.Conversion.{Conversion}
use Rattle.typed_program.specs.declared.expr.TypedExpr.{TypedExpr}
use Rattle.typed_program.specs.declared.program.Program.{Program}
use Rattle.typed_program.specs.declared.stmt.Saved.{Saved}
use Rattle.typed_program.specs.declared.stmt.TypedCatch.{TypedCatch}
use Rattle.typed_program.specs.declared.stmt.TypedLocal.{TypedLocal}
use Rattle.typed_program.specs.declared.stmt.TypedStart.{TypedStart}
use Rattle.typed_program.specs.declared.stmt.TypedStart.TheVariants as Begins
use Rattle.typed_program.specs.declared.stmt.TypedStmt.{TypedStmt}
use Rattle.typed_program.specs.declared.stmt.TypedStmt.TheFolds.{fold-TypedCatch, fold-roll-TypedCatch, fold-roll-TypedStmt, ind-TypedStmt, map-TypedCatch, map-TypedStmt}
use Rattle.typed_program.specs.declared.stmt.TypedStmt.TheOpen.{TypedCatch-F, TypedStmt-F}
use Rattle.typed_program.specs.declared.stmt.TypedStmt.TheViews.{roll-TypedCatch, roll-TypedStmt}
use Rattle.stack_code.specs.Code as Code
use Rattle.stack_code.specs.Code.{Instrs, ClauseCode, catch_code, choice_code, each_code, finally_code, joined, loop_code}
use Rattle.stack_code.specs.Machine.{instrs_at}
use Rattle.stack_code.specs.Steps as Steps
use Rattle.stack_code.specs.declared.code.Instr.TheVariants as I
use Rattle.stack_code.specs.declared.image.Image.{Image}
use Rattle.program_means.proofs.Clauses as Clauses
use Rattle.program_means.proofs.Lists.{choice_is, choice_else, do_over, loop_is, loop_to, turn_to}
use Rattle.program_means.proofs.Open as Open
use Rattle.program_means.proofs.Saves.{save_at}
use Rattle.program_simulation.proofs.Classes.{IsImage}
use Rattle.program_simulation.proofs.Fetch.{past}
use Rattle.program_simulation.proofs.Frames.{Follows}
use Rattle.program_simulation.proofs.OfValues as OfValues
use Rattle.program_simulation.proofs.OfValues.{tests_at}
use Rattle.program_simulation.proofs.Simulates as T
use Rattle.program_simulation.proofs.Simulates.{Around, stands_as}

-- ---- one part after the other

module _ (site : Site) (image : Image) (r : Trail.Run) where
  abbrev At : Around → Instrs → List Value → State → Type 0
  At a k temps st = T.At site image r a k temps st

  abbrev GoesOn : Around → Instrs → Res (Unit {0}) → Type 0
  GoesOn a k res = Open.GoesOn site image r a k res

  abbrev Stopped : Around → Stop Abrupt → State → Type 0
  Stopped a why st = T.Stopped site image r a why st

  abbrev Does : Do → Instrs → Type 0
  Does f is = T.Does site image r f is

  abbrev Puts : Run → Instrs → Type 0
  Puts f is = T.Puts site image r f is

  abbrev Tests : Test → Instrs → Type 0
  Tests f is = T.Tests site image r f is

  pub does_then : (f g : Do) (is js : Instrs) → Does f is → Does g js → Does (λ st. bind (f st) (λ u s. g s)) (is ++ js)
  does_then f g is js p q a k st post =
      T.again_at site image r a is js k [] st
      (p a (js ++ k) st (weaken _ _ (Stopped a) (f st) (λ u s h. q a k s h) (bound (λ u s. At a k [] s) (Stopped a) (f st) (λ u s. g s) post)))

  -- a value, and then what is done with it
  pub value_then : (f : Run) (g : Value → Do) (is js : Instrs) → Puts f is →
      ((v : Value) (a : Around) (k : Instrs) (st : State) → GoesOn a k (g v st) → At a (js ++ k) (v ∷ []) st) → Does (λ st. bind (f st) g) (is ++ js)
  value_then f g is js p q a k st post =
      T.again_at site image r a is js k [] st
      (p a (js ++ k) [] st (weaken _ _ (Stopped a) (f st) (λ v s h. q v a k s h) (bound (λ u s. At a k [] s) (Stopped a) (f st) g post)))

  -- a step, and then the rest of a statement
  pub step_then : (f : Do) (is : Instrs) → Does f is → Does (λ st. bind (charge K.Steps 1 st) (λ u s. f s)) (I.Step ∷ is)
  step_then f is h a k st post =
      T.step_at site image r a (is ++ k) [] st
      (weaken _ _ (Stopped a) (charge K.Steps 1 st) (λ u s g. h a k s g) (bound (λ u s. At a k [] s) (Stopped a) (charge K.Steps 1 st) (λ u s. f s) post))

  pub store_at : (a : Around) (x : ℕ) (v : Value) (k : Instrs) (temps : List Value) (st : State) → At a k temps (set_local x v st) → At a (I.Store x ∷ k) (v ∷ temps) st
  store_at a x v k temps st post =
      T.first site image r a (I.Store x) k (v ∷ temps) st (λ pc w b d. post.by (pc + 1) w (stands_as a.below st (set_local x v st) w refl b) d)

  -- ---- forms

  pub if_at : (t : Test) (f g : Do) (ct cf cg : Instrs) → Tests t ct → Does f cf → Does g cg → Does (λ st. bind (t st) (λ b s. cond b (f s) (g s))) (ct ++ choice_code cf cg)
  if_at t f g ct cf cg p q o a k st post =
      T.again_at site image r a ct (choice_code cf cg) k [] st
      (T.at_same site image r a (ct ++ (choice_code cf cg ++ k)) (ct ++ I.Unless (length cf + 1) ∷ l) [] st (ap (λ x. ct ++ x) (choice_is cf cg k))
      (p a (length cf + 1) l (cg ++ k) [] st (choice_else (length cg) cf (cg ++ k)) (weaken _ _ (Stopped a) (t st) by (bound (λ u s. At a k [] s) (Stopped a) (t st) (λ b s. cond b (f s) (g s)) post)))) where
        l : Instrs
        l = cf ++ I.Jump (length cg) ∷ (cg ++ k)

        by : (b : Bool) (s : State) → GoesOn a k (cond b (f s) (g s)) → At a (cond b l (cg ++ k)) [] s
        by true s h =
            q a (I.Jump (length cg) ∷ (cg ++ k)) s
            (weaken _ _ (Stopped a) (f s) (λ u s1 x. T.jump_at site image r a (length cg) (cg ++ k) k [] s1 (drop-append_seam cg k) x) h)
        by false s h = o a k s h

  -- `do` begins with what it repeats
  pub do_at : (f go : Do) (ct cf : Instrs) → Does f cf → Does go (loop_code ct cf []) → Does (λ st. looping (f st) go) (I.Jump (length ct + 2) ∷ loop_code ct cf [])
  do_at f go ct cf p q a k st post =
      T.at_same site image r a (I.Jump (length ct + 2) ∷ (loop_code ct cf [] ++ k)) (I.Jump (length ct + 2) ∷ loop_to ct cf [] k) [] st (ap (λ l. I.Jump (length ct + 2) ∷ l) (loop_is ct cf [] k))
      (T.first site image r a (I.Jump (length ct + 2)) (loop_to ct cf [] k) [] st
      (λ pc w b d. (Open.turn_at site image r a (pc + 1) ct cf [] k f (λ s. Gives tt s) go st d p (λ a1 k1 s h. h)
      (λ s h. T.at_same site image r a (loop_to ct cf [] k) (loop_code ct cf [] ++ k) [] s (sym (loop_is ct cf [] k)) (q a k s h)) post).by
      (pc + 1 + (length ct + 2)) w b (past pc (length ct + 2) (instrs_at image a.body) (loop_to ct cf [] k) (turn_to (length ct + 1) cf [] k) (do_over ct cf [] k) d)))

  pub return_at : (v : Value) (a : Around) (k : Instrs) (temps : List Value) (st : State) → T.Left site image r a (Returns v) st → At a (I.Return ∷ k) (v ∷ temps) st
  return_at v a k temps st post = T.first site image r a I.Return k (v ∷ temps) st (λ pc w b d. post.by pc [] w b)

  pub throw_at : (v : Value) (a : Around) (k : Instrs) (st : State) → GoesOn a k (E.throw v st) → At a (I.Throw ∷ k) (v ∷ []) st
  throw_at (Plain c) a k st post = T.first site image r a I.Throw k (Plain c ∷ []) st (λ pc w b d. post.by pc [] w b)
  throw_at (Object x) a k st post = T.first site image r a I.Throw k (Object x ∷ []) st (λ pc w b d. post.by pc [] w b)

  -- an instruction that only leaves
  pub break_at : (a : Around) (k : Instrs) (st : State) → T.Left site image r a Breaks st → At a (I.Break ∷ k) [] st
  break_at a k st post = T.first site image r a I.Break k [] st (λ pc w b d. post.by pc [] w b)

  pub continue_at : (a : Around) (k : Instrs) (st : State) → T.Left site image r a Continues st → At a (I.Continue ∷ k) [] st
  continue_at a k st post = T.first site image r a I.Continue k [] st (λ pc w b d. post.by pc [] w b)

-- ---- the statements

module _ (setting : Setting) (image : Image) (r : Trail.Run) (is : IsImage setting.program image) (again : Again) (names : List (List ℕ)) (follows : Follows (site_of setting) image r again)
    (values : (e : TypedExpr) → T.Puts (site_of setting) image r (value_of setting again names e) (Code.expr_code setting.program e)) where
  abbrev program : Program
  program = setting.program

  abbrev site : Site
  site = site_of setting

  abbrev DoesSo : Do → Instrs → Type 0
  DoesSo f is = T.Does site image r f is

  abbrev OfStmt : TypedStmt → Type 0
  OfStmt s = DoesSo (D.does setting again names s) (Code.stmt_code program s)

  abbrev clause_run : TypedCatch → E.Clause
  clause_run = fold-TypedCatch Do E.Clause (D.stmt_step setting again names) (D.catch_step setting again names)

  abbrev clause_code : TypedCatch → ClauseCode
  clause_code = fold-TypedCatch Instrs ClauseCode (Code.stmt_step program) (Code.catch_step program)

  abbrev OfCatch : TypedCatch → Type 0
  OfCatch c = Clauses.OfClause site program image is r (clause_run c) (clause_code c)

  abbrev SuchStmt : Type 0
  SuchStmt = (s : TypedStmt) × OfStmt s

  abbrev SuchCatch : Type 0
  SuchCatch = (c : TypedCatch) × OfCatch c

  abbrev stmts_in : List SuchStmt → List TypedStmt
  stmts_in ss = map (λ p. p.0) ss

  abbrev catches_in : List SuchCatch → List TypedCatch
  catches_in cs = map (λ p. p.0) cs

  does_stmt : (z : TypedStmt-F TypedStmt TypedCatch) (f : Do) (is : Instrs) →
      ((st : State) → D.stmt_step setting again names (map-TypedStmt TypedStmt TypedCatch Do E.Clause (D.does setting again names) clause_run z) st ≡ f st) →
      Code.stmt_step program (map-TypedStmt TypedStmt TypedCatch Instrs ClauseCode (Code.stmt_code program) clause_code z) ≡ is → DoesSo f is → OfStmt (roll-TypedStmt z)
  does_stmt z f is q e h =
      T.does_same site image r (D.does setting again names (roll-TypedStmt z)) f (Code.stmt_code program (roll-TypedStmt z)) is
      (λ st. ap (λ g. g st) (fold-roll-TypedStmt Do E.Clause (D.stmt_step setting again names) (D.catch_step setting again names) z) ∙ q st)
      (fold-roll-TypedStmt Instrs ClauseCode (Code.stmt_step program) (Code.catch_step program) z ∙ e) h

  all_at : (ss : List SuchStmt) → DoesSo (all_do (map (D.does setting again names) (stmts_in ss))) (joined (map (Code.stmt_code program) (stmts_in ss)))
  all_at [] a k st post = post
  all_at (s ∷ ss) a k st post =
      does_then site image r (D.does setting again names s.0) (all_do (map (D.does setting again names) (stmts_in ss))) (Code.stmt_code program s.0) (joined (map (Code.stmt_code program) (stmts_in ss))) s.1 (all_at ss) a k st post

  value_at : (v : Option TypedExpr) → T.Puts site image r (D.local_value setting again names v) (Code.value_code program v)
  value_at None = OfValues.push_at site image r C.Null
  value_at (Some e) = values e

  locals_at : (ls : List TypedLocal) → DoesSo (D.declare_all setting again names ls) (Code.locals_code program ls)
  locals_at [] a k st post = post
  locals_at (l ∷ ls) a k st post =
      value_then site image r (D.local_value setting again names l.value) (λ v s. D.declare_all setting again names ls (set_local l.slot v s)) (Code.value_code program l.value) (I.Store l.slot ∷ Code.locals_code program ls) (value_at l.value)
      (λ v a1 k1 s h. store_at site image r a1 l.slot v (Code.locals_code program ls ++ k1) [] s (locals_at ls a1 k1 (set_local l.slot v s) h)) a k st post

  effect_at : (e : TypedExpr) → DoesSo (D.effect setting again names e) (Code.effect_code program e)
  effect_at e = value_then site image r (value_of setting again names e) (λ v s. Gives tt s) (Code.expr_code program e) (I.Pop ∷ []) (values e) (λ v a k s h. T.pop_at site image r a v k [] s h)

  effect_or_at : (o : Option TypedExpr) → DoesSo (D.effect_or setting again names o) (Code.effect_or program o)
  effect_or_at None a k st post = post
  effect_or_at (Some e) a k st post = effect_at e a k st post

  condition_at : (o : Option TypedExpr) → T.Tests site image r (D.condition setting again names o) (Code.condition_code program o)
  condition_at None = tests_at site image r (λ st. Gives (Plain (C.Bool true)) st) (I.Push (C.Bool true) ∷ []) (OfValues.push_at site image r (C.Bool true))
  condition_at (Some e) = tests_at site image r (value_of setting again names e) (Code.expr_code program e) (values e)

  begins_at : (s : TypedStart) → DoesSo (D.begins setting again names s) (Code.begin_code program s)
  begins_at Begins.Nothing a k st post = post
  begins_at (Begins.Declare ls) a k st post = locals_at ls a k st post
  begins_at (Begins.Expr e) a k st post = effect_at e a k st post

  returns_at : (o : Option TypedExpr) → DoesSo (D.returns setting again names o) (Code.value_code program o ++ I.Return ∷ [])
  returns_at None a k st post = OfValues.push_at site image r C.Null a (I.Return ∷ k) [] st (return_at site image r null a k [] st post)
  returns_at (Some e) a k st post =
      value_then site image r (value_of setting again names e) (λ v s. Stops (Leaves (Returns v)) s) (Code.expr_code program e) (I.Return ∷ []) (values e) (λ v a1 k1 s h. return_at site image r v a1 k1 [] s h) a k st post

  -- a condition, what it chooses, and nothing else
  while_at : (c : TypedExpr) (f : Do) (is : Instrs) → DoesSo f is → DoesSo (again.loop (test (value_of setting again names c)) f (D.nothing setting again names)) (loop_code (Code.expr_code program c) is [])
  while_at c f is h =
      follows.loop (test (value_of setting again names c)) f (D.nothing setting again names) (Code.expr_code program c) is [] (tests_at site image r (value_of setting again names c) (Code.expr_code program c) (values c)) h (λ a k st post. post)

  if_so : (c : TypedExpr) (f : Do) (g : Option Do) (cf : Instrs) (cg : Option Instrs) → DoesSo f cf → DoesSo (D.do_or g) (Code.or_nothing program cg) →
      DoesSo (λ st. bind (test (value_of setting again names c) st) (D.chosen setting again names f g)) (Code.expr_code program c ++ choice_code cf (Code.or_nothing program cg))
  if_so c f g cf cg p q =
      T.does_same site image r (λ st. bind (test (value_of setting again names c) st) (D.chosen setting again names f g)) (λ st. bind (test (value_of setting again names c) st) (λ b s. cond b (f s) (D.do_or g s)))
      (Code.expr_code program c ++ choice_code cf (Code.or_nothing program cg)) (Code.expr_code program c ++ choice_code cf (Code.or_nothing program cg)) (λ st. same (test (value_of setting again names c) st)) refl
      (if_at site image r (test (value_of setting again names c)) f (D.do_or g) (Code.expr_code program c) cf (Code.or_nothing program cg) (tests_at site image r (value_of setting again names c) (Code.expr_code program c) (values c)) p q) where
        same : (res : Res Bool) → bind res (D.chosen setting again names f g) ≡ bind res (λ b s. cond b (f s) (D.do_or g s))
        same (Gives true s) = refl
        same (Gives false s) = refl
        same (Stops why s) = refl

  throw_so : (e : TypedExpr) → DoesSo (λ st. bind (value_of setting again names e st) E.throw) (Code.expr_code program e ++ I.Throw ∷ [])
  throw_so e = value_then site image r (value_of setting again names e) E.throw (Code.expr_code program e) (I.Throw ∷ []) (values e) (λ v a k s h. throw_at site image r v a k s h)

  each_so : (slot : ℕ) (how : Conversion) (e : TypedExpr) (f : Do) (is : Instrs) → DoesSo f is →
      DoesSo (λ st. bind (value_of setting again names e st) (λ v s. D.each_of slot how f (items_of v s.world.heap) s)) (Code.expr_code program e ++ each_code slot how is)
  each_so slot how e f is h =
      value_then site image r (value_of setting again names e) (λ v s. D.each_of slot how f (items_of v s.world.heap) s) (Code.expr_code program e) (each_code slot how is) (values e)
      (λ v a k s g. Open.each_at site image r slot how f is h v a k s g)

  save_so : (op : DmlOp) (what : Saved) (e : TypedExpr) → DoesSo (λ st. bind (value_of setting again names e st) (λ v s. save_these site (code_of setting again) (op_of op) (records_of what v s.world.heap) s)) (Code.expr_code program e ++ I.Save (op_of op) what ∷ [])
  save_so op what e =
      value_then site image r (value_of setting again names e) (λ v s. save_these site (code_of setting again) (op_of op) (records_of what v s.world.heap) s) (Code.expr_code program e) (I.Save (op_of op) what ∷ []) (values e)
      (λ v a k s h. save_at setting image r is again follows (op_of op) what v a k [] s h)

  try_at : (ss : List SuchStmt) (cs : List SuchCatch) → DoesSo (λ st. E.catching program (map clause_run (catches_in cs)) (all_do (map (D.does setting again names) (stmts_in ss)) st)) (catch_code (map clause_code (catches_in cs)) (joined (map (Code.stmt_code program) (stmts_in ss))))
  try_at ss cs =
      Clauses.catch_at site program image is r (λ p. p.0) clause_run clause_code (λ p. p.1) cs (all_do (map (D.does setting again names) (stmts_in ss))) (joined (map (Code.stmt_code program) (stmts_in ss))) (all_at ss)

  -- ---- each form

  stmt_layer : (y : TypedStmt-F SuchStmt SuchCatch) → OfStmt (roll-TypedStmt (map-TypedStmt SuchStmt SuchCatch TypedStmt TypedCatch (λ e. e.0) (λ e. e.0) y))
  stmt_layer (TypedStmt-F.Block ss) = does_stmt (TypedStmt-F.Block (stmts_in ss)) _ _ (λ st. refl) refl (all_at ss)
  stmt_layer (TypedStmt-F.Declare ls) = does_stmt (TypedStmt-F.Declare ls) _ _ (λ st. refl) refl (step_then site image r (D.declare_all setting again names ls) (Code.locals_code program ls) (locals_at ls))
  stmt_layer (TypedStmt-F.Expr e) = does_stmt (TypedStmt-F.Expr e) _ _ (λ st. refl) refl (step_then site image r (D.effect setting again names e) (Code.effect_code program e) (effect_at e))
  stmt_layer (TypedStmt-F.If c p None) =
      does_stmt (TypedStmt-F.If c p.0 None) _ _ (λ st. refl) refl
      (step_then site image r _ (Code.expr_code program c ++ choice_code (Code.stmt_code program p.0) []) (if_so c (D.does setting again names p.0) None (Code.stmt_code program p.0) None p.1 (λ a k st post. post)))
  stmt_layer (TypedStmt-F.If c p (Some q)) =
      does_stmt (TypedStmt-F.If c p.0 (Some q.0)) _ _ (λ st. refl) refl
      (step_then site image r _ (Code.expr_code program c ++ choice_code (Code.stmt_code program p.0) (Code.stmt_code program q.0))
      (if_so c (D.does setting again names p.0) (Some (D.does setting again names q.0)) (Code.stmt_code program p.0) (Some (Code.stmt_code program q.0)) p.1 q.1))
  stmt_layer (TypedStmt-F.While c p) =
      does_stmt (TypedStmt-F.While c p.0) _ _ (λ st. refl) refl
      (step_then site image r _ (loop_code (Code.expr_code program c) (Code.stmt_code program p.0) []) (while_at c (D.does setting again names p.0) (Code.stmt_code program p.0) p.1))
  stmt_layer (TypedStmt-F.Do p c) =
      does_stmt (TypedStmt-F.Do p.0 c) _ _ (λ st. refl) refl
      (step_then site image r _ (I.Jump (length (Code.expr_code program c) + 2) ∷ loop_code (Code.expr_code program c) (Code.stmt_code program p.0) [])
      (do_at site image r (D.does setting again names p.0) (again.loop (test (value_of setting again names c)) (D.does setting again names p.0) (D.nothing setting again names)) (Code.expr_code program c) (Code.stmt_code program p.0) p.1
      (while_at c (D.does setting again names p.0) (Code.stmt_code program p.0) p.1)))
  stmt_layer (TypedStmt-F.For start c n p) =
      does_stmt (TypedStmt-F.For start c n p.0) _ _ (λ st. refl) refl
      (step_then site image r _ (Code.begin_code program start ++ loop_code (Code.condition_code program c) (Code.stmt_code program p.0) (Code.effect_or program n))
      (does_then site image r (D.begins setting again names start) (again.loop (D.condition setting again names c) (D.does setting again names p.0) (D.effect_or setting again names n)) (Code.begin_code program start)
      (loop_code (Code.condition_code program c) (Code.stmt_code program p.0) (Code.effect_or program n)) (begins_at start)
      (follows.loop (D.condition setting again names c) (D.does setting again names p.0) (D.effect_or setting again names n) (Code.condition_code program c) (Code.stmt_code program p.0) (Code.effect_or program n) (condition_at c) p.1 (effect_or_at n))))
  stmt_layer (TypedStmt-F.ForEach slot how e p) =
      does_stmt (TypedStmt-F.ForEach slot how e p.0) _ _ (λ st. refl) refl
      (step_then site image r _ (Code.expr_code program e ++ each_code slot how (Code.stmt_code program p.0)) (each_so slot how e (D.does setting again names p.0) (Code.stmt_code program p.0) p.1))
  stmt_layer (TypedStmt-F.Return e) = does_stmt (TypedStmt-F.Return e) _ _ (λ st. refl) refl (step_then site image r (D.returns setting again names e) (Code.value_code program e ++ I.Return ∷ []) (returns_at e))
  stmt_layer TypedStmt-F.Break = does_stmt TypedStmt-F.Break _ _ (λ st. refl) refl (step_then site image r (λ st. Stops (Leaves Breaks) st) (I.Break ∷ []) (λ a k st post. break_at site image r a k st post))
  stmt_layer TypedStmt-F.Continue = does_stmt TypedStmt-F.Continue _ _ (λ st. refl) refl (step_then site image r (λ st. Stops (Leaves Continues) st) (I.Continue ∷ []) (λ a k st post. continue_at site image r a k st post))
  stmt_layer (TypedStmt-F.Throw e) = does_stmt (TypedStmt-F.Throw e) _ _ (λ st. refl) refl (step_then site image r _ (Code.expr_code program e ++ I.Throw ∷ []) (throw_so e))
  stmt_layer (TypedStmt-F.Try ss cs None) =
      does_stmt (TypedStmt-F.Try (stmts_in ss) (catches_in cs) None) _ _ (λ st. refl) refl
      (step_then site image r _ (catch_code (map clause_code (catches_in cs)) (joined (map (Code.stmt_code program) (stmts_in ss)))) (try_at ss cs))
  stmt_layer (TypedStmt-F.Try ss cs (Some fs)) =
      does_stmt (TypedStmt-F.Try (stmts_in ss) (catches_in cs) (Some (stmts_in fs))) _ _ (λ st. refl) refl
      (step_then site image r _ (finally_code (Some (joined (map (Code.stmt_code program) (stmts_in fs)))) (catch_code (map clause_code (catches_in cs)) (joined (map (Code.stmt_code program) (stmts_in ss)))))
      (Open.finally_at site image r (λ st. E.catching program (map clause_run (catches_in cs)) (all_do (map (D.does setting again names) (stmts_in ss)) st)) (all_do (map (D.does setting again names) (stmts_in fs)))
      (catch_code (map clause_code (catches_in cs)) (joined (map (Code.stmt_code program) (stmts_in ss)))) (joined (map (Code.stmt_code program) (stmts_in fs))) (try_at ss cs) (all_at fs)))
  stmt_layer (TypedStmt-F.Dml op what e) = does_stmt (TypedStmt-F.Dml op what e) _ _ (λ st. refl) refl (step_then site image r _ (Code.expr_code program e ++ I.Save (op_of op) what ∷ []) (save_so op what e))

  -- ---- clauses

  catch_layer : (y : TypedCatch-F SuchStmt SuchCatch) → OfCatch (roll-TypedCatch (map-TypedCatch SuchStmt SuchCatch TypedStmt TypedCatch (λ e. e.0) (λ e. e.0) y))
  catch_layer y = subst (λ c. Clauses.OfClause site program image is r c (clause_code z)) (sym runs) (subst (λ c. Clauses.OfClause site program image is r (D.catch_step setting again names (map-TypedCatch TypedStmt TypedCatch Do E.Clause (D.does setting again names) clause_run x)) c) (sym codes) (record { kind = refl; slot = refl; does = all_at y.body })) where
    x : TypedCatch-F TypedStmt TypedCatch
    x = map-TypedCatch SuchStmt SuchCatch TypedStmt TypedCatch (λ e. e.0) (λ e. e.0) y

    z : TypedCatch
    z = roll-TypedCatch x

    runs : clause_run z ≡ D.catch_step setting again names (map-TypedCatch TypedStmt TypedCatch Do E.Clause (D.does setting again names) clause_run x)
    runs = fold-roll-TypedCatch Do E.Clause (D.stmt_step setting again names) (D.catch_step setting again names) x

    codes : clause_code z ≡ Code.catch_step program (map-TypedCatch TypedStmt TypedCatch Instrs ClauseCode (Code.stmt_code program) clause_code x)
    codes = fold-roll-TypedCatch Instrs ClauseCode (Code.stmt_step program) (Code.catch_step program) x

  pub stmt_at : (s : TypedStmt) → OfStmt s
  stmt_at = ind-TypedStmt OfStmt OfCatch (λ x y is. subst (λ z. OfStmt (roll-TypedStmt z)) is (stmt_layer y)) (λ x y is. subst (λ z. OfCatch (roll-TypedCatch z)) is (catch_layer y))

  pub stmts_at : (ss : List TypedStmt) → DoesSo (D.does_all setting again names ss) (Code.block_code program ss)
  stmts_at [] a k st post = post
  stmts_at (s ∷ ss) a k st post =
      does_then site image r (D.does setting again names s) (D.does_all setting again names ss) (Code.stmt_code program s) (Code.block_code program ss) (stmt_at s) (stmts_at ss) a k st post
