-- The code of every statement is a piece whose jumps stay within it.
use Rattle.std.proofs.Common.{◌≡◌, Bool, true, List, [], ◌∷◌, ◌++◌, map, Option, None, Some, refl, sym, ap, ◌∙◌, subst}
use Rattle.apex_num.specs.declared.cell.Cell.TheVariants as C
use Rattle.request_states.specs.Statements.{op_of}
use Rattle.typed_program.specs.declared.expr.TypedExpr.{TypedExpr}
use Rattle.typed_program.specs.declared.program.Program.{Program}
use Rattle.typed_program.specs.declared.stmt.TypedCatch.{TypedCatch}
use Rattle.typed_program.specs.declared.stmt.TypedLocal.{TypedLocal}
use Rattle.typed_program.specs.declared.stmt.TypedStart.{TypedStart}
use Rattle.typed_program.specs.declared.stmt.TypedStart.TheVariants as Begins
use Rattle.typed_program.specs.declared.stmt.TypedStmt.{TypedStmt}
use Rattle.typed_program.specs.declared.stmt.TypedStmt.TheOpen.{TypedStmt-F, TypedCatch-F}
use Rattle.typed_program.specs.declared.stmt.TypedStmt.TheViews.{roll-TypedStmt, roll-TypedCatch}
use Rattle.typed_program.specs.declared.stmt.TypedStmt.TheFolds.{fold-TypedCatch, fold-roll-TypedStmt, fold-roll-TypedCatch, ind-TypedStmt, map-TypedStmt, map-TypedCatch}
use Rattle.stack_code.specs.declared.code.Instr.{Instr}
use Rattle.stack_code.specs.declared.code.Instr.TheVariants as I
use Rattle.stack_code.specs.Code.{Instrs, ClauseCode, joined, expr_code, value_code, locals_code, effect_code, effect_or, condition_code, begin_code, choice_code, loop_code, each_code, catch_code, stmt_step, catch_step, stmt_code, block_code}
use Rattle.program_checks.proofs.Pieces.{Closed, Plain, closed_same, closed_nil, closed_append, closed_cons, closed_one, closed_then, closed_joined, closed_map}
use Rattle.program_checks.proofs.Forms.{choice_closed, loop_closed, do_closed, each_closed, AllClosed, catch_closed, finally_closed}
use Rattle.program_checks.proofs.Expressions.{expr_closed}

module _ (program : Program) (b : Bool) where
  -- ---- what statements are made of

  value_closed : (v : Option TypedExpr) → Closed b (value_code program v)
  value_closed None = closed_one b (I.Push C.Null) (λ code pc. tt)
  value_closed (Some e) = expr_closed program b e

  locals_closed : (ls : List TypedLocal) → Closed b (locals_code program ls)
  locals_closed [] = closed_nil b
  locals_closed (l ∷ ls) =
      closed_append b (value_code program l.value) (I.Store l.slot ∷ locals_code program ls) (value_closed l.value)
      (closed_cons b (I.Store l.slot) (locals_code program ls) (λ code pc. tt) (locals_closed ls))

  effect_closed : (e : TypedExpr) → Closed b (effect_code program e)
  effect_closed e = closed_then b (expr_code program e) I.Pop (λ code pc. tt) (expr_closed program b e)

  effect_or_closed : (v : Option TypedExpr) → Closed b (effect_or program v)
  effect_or_closed None = closed_nil b
  effect_or_closed (Some e) = effect_closed e

  condition_closed : (v : Option TypedExpr) → Closed b (condition_code program v)
  condition_closed None = closed_one b (I.Push (C.Bool true)) (λ code pc. tt)
  condition_closed (Some e) = expr_closed program b e

  begin_closed : (s : TypedStart) → Closed b (begin_code program s)
  begin_closed Begins.Nothing = closed_nil b
  begin_closed (Begins.Declare ls) = locals_closed ls
  begin_closed (Begins.Expr e) = effect_closed e

  -- ---- what holds of each part of a statement

  abbrev clause_code : TypedCatch → ClauseCode
  clause_code = fold-TypedCatch Instrs ClauseCode (stmt_step program) (catch_step program)

  abbrev SuchStmt : Type 0
  SuchStmt = (s : TypedStmt) × Closed b (stmt_code program s)

  abbrev SuchCatch : Type 0
  SuchCatch = (c : TypedCatch) × Closed b (clause_code c).code

  abbrev codes : List SuchStmt → Instrs
  codes ss = joined (map (stmt_code program) (map (λ (s : SuchStmt). s.0) ss))

  codes_closed : (ss : List SuchStmt) → Closed b (codes ss)
  codes_closed ss = closed_joined b (stmt_code program) ss

  clauses_all : (cs : List SuchCatch) → AllClosed b (map clause_code (map (λ (c : SuchCatch). c.0) cs))
  clauses_all [] = tt
  clauses_all (c ∷ cs) = (c.1, clauses_all cs)

  -- ---- layers over such parts, and the trees that they make

  abbrev stmt_in : TypedStmt-F SuchStmt SuchCatch → TypedStmt
  stmt_in y = roll-TypedStmt (map-TypedStmt SuchStmt SuchCatch TypedStmt TypedCatch (λ e. e.0) (λ e. e.0) y)

  abbrev catch_in : TypedCatch-F SuchStmt SuchCatch → TypedCatch
  catch_in y = roll-TypedCatch (map-TypedCatch SuchStmt SuchCatch TypedStmt TypedCatch (λ e. e.0) (λ e. e.0) y)

  stmt_is : (z : TypedStmt-F TypedStmt TypedCatch) (is : Instrs) → stmt_step program (map-TypedStmt TypedStmt TypedCatch Instrs ClauseCode (stmt_code program) clause_code z) ≡ is → Closed b is → Closed b (stmt_code program (roll-TypedStmt z))
  stmt_is z is e h = closed_same b (stmt_code program (roll-TypedStmt z)) is (fold-roll-TypedStmt Instrs ClauseCode (stmt_step program) (catch_step program) z ∙ e) h

  -- one that charges a step first
  step_is : (z : TypedStmt-F TypedStmt TypedCatch) (is : Instrs) → stmt_step program (map-TypedStmt TypedStmt TypedCatch Instrs ClauseCode (stmt_code program) clause_code z) ≡ I.Step ∷ is → Closed b is → Closed b (stmt_code program (roll-TypedStmt z))
  step_is z is e h = stmt_is z (I.Step ∷ is) e (closed_cons b I.Step is (λ code pc. tt) h)

  -- a value, and an instruction that takes it
  taken : (e : TypedExpr) (i : Instr) → Plain b i → Closed b (expr_code program e ++ i ∷ [])
  taken e i f = closed_then b (expr_code program e) i f (expr_closed program b e)

  stmt_layer : (y : TypedStmt-F SuchStmt SuchCatch) → Closed b (stmt_code program (stmt_in y))
  stmt_layer (TypedStmt-F.Block ss) = stmt_is (TypedStmt-F.Block (map (λ (s : SuchStmt). s.0) ss)) _ refl (codes_closed ss)
  stmt_layer (TypedStmt-F.Declare ls) = step_is (TypedStmt-F.Declare ls) _ refl (locals_closed ls)
  stmt_layer (TypedStmt-F.Expr e) = step_is (TypedStmt-F.Expr e) _ refl (effect_closed e)
  stmt_layer (TypedStmt-F.If e p None) = step_is (TypedStmt-F.If e p.0 None) _ refl (closed_append b (expr_code program e) (choice_code (stmt_code program p.0) []) (expr_closed program b e) (choice_closed b (stmt_code program p.0) [] p.1 (closed_nil b)))
  stmt_layer (TypedStmt-F.If e p (Some q)) = step_is (TypedStmt-F.If e p.0 (Some q.0)) _ refl (closed_append b (expr_code program e) (choice_code (stmt_code program p.0) (stmt_code program q.0)) (expr_closed program b e) (choice_closed b (stmt_code program p.0) (stmt_code program q.0) p.1 q.1))
  stmt_layer (TypedStmt-F.While e p) = step_is (TypedStmt-F.While e p.0) _ refl (loop_closed b (expr_code program e) (stmt_code program p.0) [] (expr_closed program b e) p.1 (closed_nil b))
  stmt_layer (TypedStmt-F.Do p e) = step_is (TypedStmt-F.Do p.0 e) _ refl (do_closed b (expr_code program e) (stmt_code program p.0) (expr_closed program b e) p.1)
  stmt_layer (TypedStmt-F.For start c n p) = step_is (TypedStmt-F.For start c n p.0) _ refl (closed_append b (begin_code program start) (loop_code (condition_code program c) (stmt_code program p.0) (effect_or program n)) (begin_closed start) (loop_closed b (condition_code program c) (stmt_code program p.0) (effect_or program n) (condition_closed c) p.1 (effect_or_closed n)))
  stmt_layer (TypedStmt-F.ForEach x how e p) = step_is (TypedStmt-F.ForEach x how e p.0) _ refl (closed_append b (expr_code program e) (each_code x how (stmt_code program p.0)) (expr_closed program b e) (each_closed b x how (stmt_code program p.0) p.1))
  stmt_layer (TypedStmt-F.Return e) = step_is (TypedStmt-F.Return e) _ refl (closed_then b (value_code program e) I.Return (λ code pc. tt) (value_closed e))
  stmt_layer TypedStmt-F.Break = step_is TypedStmt-F.Break _ refl (closed_one b I.Break (λ code pc. tt))
  stmt_layer TypedStmt-F.Continue = step_is TypedStmt-F.Continue _ refl (closed_one b I.Continue (λ code pc. tt))
  stmt_layer (TypedStmt-F.Throw e) = step_is (TypedStmt-F.Throw e) _ refl (taken e I.Throw (λ code pc. tt))
  stmt_layer (TypedStmt-F.Try ss cs None) = step_is (TypedStmt-F.Try (map (λ (s : SuchStmt). s.0) ss) (map (λ (c : SuchCatch). c.0) cs) None) _ refl (catch_closed b (map clause_code (map (λ (c : SuchCatch). c.0) cs)) (codes ss) (clauses_all cs) (codes_closed ss))
  stmt_layer (TypedStmt-F.Try ss cs (Some fs)) =
      step_is (TypedStmt-F.Try (map (λ (s : SuchStmt). s.0) ss) (map (λ (c : SuchCatch). c.0) cs) (Some (map (λ (s : SuchStmt). s.0) fs))) _ refl
      (finally_closed b (Some (codes fs)) (catch_code (map clause_code (map (λ (c : SuchCatch). c.0) cs)) (codes ss)) (codes_closed fs)
      (catch_closed b (map clause_code (map (λ (c : SuchCatch). c.0) cs)) (codes ss) (clauses_all cs) (codes_closed ss)))
  stmt_layer (TypedStmt-F.Dml op what e) = step_is (TypedStmt-F.Dml op what e) _ refl (taken e (I.Save (op_of op) what) (λ code pc. tt))

  catch_layer : (y : TypedCatch-F SuchStmt SuchCatch) → Closed b (clause_code (catch_in y)).code
  catch_layer y =
      subst (Closed b) (sym (ap (λ (c : ClauseCode). c.code) (fold-roll-TypedCatch Instrs ClauseCode (stmt_step program) (catch_step program) (record { kind = y.kind; slot = y.slot; body = map (λ (s : SuchStmt). s.0) y.body })))) (codes_closed y.body)

  pub stmt_closed : (s : TypedStmt) → Closed b (stmt_code program s)
  stmt_closed =
      ind-TypedStmt (λ s. Closed b (stmt_code program s)) (λ c. Closed b (clause_code c).code)
      (λ x y is. subst (λ z. Closed b (stmt_code program (roll-TypedStmt z))) is (stmt_layer y))
      (λ x y is. subst (λ z. Closed b (clause_code (roll-TypedCatch z)).code) is (catch_layer y))

  pub block_closed : (ss : List TypedStmt) → Closed b (block_code program ss)
  block_closed ss = closed_map b (stmt_code program) stmt_closed ss
