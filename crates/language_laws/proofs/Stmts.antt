-- Every statement keeps a request in order, where its ways back in are paid for.
use Rattle.std.proofs.Common.{◌≡◌, ℕ, suc, ◌+◌, ◌<◌, Bool, true, false, List, [], ◌∷◌, map, Option, None, Some, refl, sym, subst}
use Rattle.activations.specs.declared.abrupt.Abrupt.TheVariants.{Throws, Returns, Breaks, Continues}
use Rattle.activations.specs.declared.abrupt.Raised.{Raised}
use Rattle.activations.specs.declared.abrupt.Raised.TheVariants.{Platform, Made}
use Rattle.apex_num.specs.declared.kind.LimitKind.TheVariants.{Steps}
use Rattle.apex_syntax.specs.declared.stmt.DmlOp.{DmlOp}
use Rattle.platform_errors.specs.declared.thrown.Thrown.TheVariants.{NullObject}
use Rattle.save_meaning.specs.Results.{Gives, Stops, Leaves, Closes, bind}
use Rattle.request_states.specs.Runs.{Setting, site_of}
use Rattle.request_states.specs.States.{State, Res, World, charge, set_local}
use Rattle.request_states.specs.Statements.{op_of, records_of, save_these}
use Rattle.typed_program.specs.declared.stmt.Saved.{Saved}
use Rattle.request_states.specs.Values.{null}
use Rattle.txn_heap.specs.declared.thing.Value.{Value}
use Rattle.txn_heap.specs.declared.thing.Value.TheVariants.{Plain, Object}
use Rattle.typed_program.specs.declared.expr.Conversion.{Conversion}
use Rattle.typed_program.specs.declared.expr.TypedExpr.{TypedExpr}
use Rattle.typed_program.specs.declared.program.Program.{Program}
use Rattle.typed_program.specs.declared.stmt.TypedCatch.{TypedCatch}
use Rattle.typed_program.specs.declared.stmt.TypedLocal.{TypedLocal}
use Rattle.typed_program.specs.declared.stmt.TypedStart.{TypedStart}
use Rattle.typed_program.specs.declared.stmt.TypedStart.TheVariants as Begins
use Rattle.typed_program.specs.declared.stmt.TypedStmt.{TypedStmt}
use Rattle.typed_program.specs.declared.stmt.TypedStmt.TheOpen.{TypedStmt-F, TypedCatch-F}
use Rattle.typed_program.specs.declared.stmt.TypedStmt.TheViews.{roll-TypedStmt, roll-TypedCatch}
use Rattle.typed_program.specs.declared.stmt.TypedStmt.TheFolds.{fold-TypedCatch, fold-roll-TypedStmt, fold-roll-TypedCatch, ind-TypedStmt, map-TypedStmt, map-TypedCatch}
use Rattle.value_operators.specs.Operators.{converted}
use Rattle.apex_meaning.specs.Collections.{items_of}
use Rattle.apex_meaning.specs.Exceptions as X
use Rattle.apex_meaning.specs.Exceptions.{Clause, catching, caught_by, clause_for, takes, throw}
use Rattle.apex_meaning.specs.Firings.{code_of}
use Rattle.apex_meaning.specs.Meanings.{Again, Do, all_do, calc, test}
use Rattle.apex_meaning.specs.Statements as D
use Rattle.language_laws.proofs.Paid.{Paid as From, Comes, Each, none, more, paid_at, paid_gives, paid_leaves, paid_bind, paid_before, freely, paid_charge, paid_throws, paid_calc, paid_test, paid_dropped, paid_make, paid_looping, paid_finally, paid_all_do}
use Rattle.language_laws.proofs.Classes.{Enough}
use Rattle.language_laws.proofs.Firings.{orderly}
use Rattle.language_laws.proofs.Saves.{paid_save_these}
use Rattle.language_laws.proofs.Trees.{paid_expr}
use Rattle.language_laws.proofs.Worlds.{later_same, spent, most_spent}

module _ (program : Program) (n : ℕ) where
  -- ---- what catches

  pub data Clauses : List Clause → Type 0 where
    no_clause : Clauses []
    a_clause : (c : Clause) (cs : List Clause) → From program n c.body → Clauses cs → Clauses (c ∷ cs)

  as_value : (r : Raised) → From program n (X.as_value r)
  as_value (Made r) = paid_gives program n (λ s. Object r)
  as_value (Platform t) = paid_make program n _

  caught : (o : Option Clause) (r : Raised) → ((c : Clause) → o ≡ Some c → From program n c.body) → From program n (caught_by o r)
  caught None r h = paid_leaves program n (λ s. Throws r)
  caught (Some c) r h = paid_bind program n (X.as_value r) _ (as_value r) (λ v. paid_before program n (set_local c.slot v) c.body (λ st k. later_same program st.world k) (h c refl))

  some_is : (a b : Clause) → Some a ≡ Some b → a ≡ b
  some_is a b e = cc

  first : (b : Bool) (x c : Clause) (o : Option Clause) → From program n x.body → (o ≡ Some c → From program n c.body) → X.if_takes b x o ≡ Some c → From program n c.body
  first true x c o h rest e = subst (λ (y : Clause). From program n y.body) (some_is x c e) h
  first false x c o h rest e = rest e

  none_is : (c : Clause) → None ≡ Some c → ⊥
  none_is c e = cc

  of_clauses : (k : X.Kind) (cs : List Clause) → Clauses cs → (c : Clause) → clause_for program k cs ≡ Some c → From program n c.body
  of_clauses k [] no_clause c e = absurd (none_is c e)
  of_clauses k (x ∷ xs) (a_clause _ _ h hs) c e = first (takes program x.kind k) x c (clause_for program k xs) h (of_clauses k xs hs c) e

  catching_comes : (w : World) (res : Res (Unit {0})) (cs : List Clause) → Comes program w res → most_spent program < n + spent program w → Clauses cs → Comes program w (catching program cs res)
  catching_comes w (Gives u s) cs c lt h = c
  catching_comes w (Stops (Leaves (Throws r)) s) cs c lt h =
      paid_at program n (caught_by (clause_for program (X.kind_of r s.world.heap) cs) r) w s (caught (clause_for program (X.kind_of r s.world.heap) cs) r (of_clauses (X.kind_of r s.world.heap) cs h)) lt c.holds
  catching_comes w (Stops (Leaves (Returns v)) s) cs c lt h = c
  catching_comes w (Stops (Leaves Breaks) s) cs c lt h = c
  catching_comes w (Stops (Leaves Continues) s) cs c lt h = c
  catching_comes w (Stops (Closes f) s) cs c lt h = c

  paid_catching : (f : Do) (cs : List Clause) → From program n f → Clauses cs → From program n (λ st. catching program cs (f st))
  paid_catching f cs h k = record { at = λ st s lt. catching_comes st.world (f st) cs (h.at st s lt) lt k }

  paid_throw : (v : Value) → From program n (throw v)
  paid_throw (Plain c) = paid_throws program n NullObject
  paid_throw (Object r) = paid_leaves program n (λ s. Throws (Made r))

  -- ---- loops over collections

  paid_each : (slot : ℕ) (how : Conversion) (body : Do) (vs : List Value) → From program n body → From program n (D.each slot how body vs)
  paid_each slot how body [] h = paid_charge program n Steps 1 (freely program)
  paid_each slot how body (v ∷ vs) h =
      paid_bind program n (charge Steps 1) _ (paid_charge program n Steps 1 (freely program))
      (λ u. paid_bind program n (calc (converted how v)) _ (paid_calc program n (converted how v))
      (λ w. paid_looping program n (λ s1. body (set_local slot w s1)) (D.each slot how body vs) (paid_before program n (set_local slot w) body (λ st k. later_same program st.world k) h) (paid_each slot how body vs h)))

  paid_each_of : (slot : ℕ) (how : Conversion) (body : Do) (o : Option (List Value)) → From program n body → From program n (D.each_of slot how body o)
  paid_each_of slot how body None h = paid_throws program n NullObject
  paid_each_of slot how body (Some vs) h = paid_each slot how body vs h

module _ (setting : Setting) (again : Again) (names : List (List ℕ)) (p : ℕ) (enough : Enough setting.program again p) where
  abbrev Paid : {A : Type 0} → (State → Res A) → Type 0
  Paid f = From setting.program (suc p) f

  -- ---- parts of statements

  value : (e : TypedExpr) → Paid (D.value setting again names e)
  value e = paid_expr setting again names p enough e

  local_value : (o : Option TypedExpr) → Paid (D.local_value setting again names o)
  local_value None = paid_gives setting.program (suc p) (λ s. null)
  local_value (Some e) = value e

  declares : (ls : List TypedLocal) → Paid (D.declare_all setting again names ls)
  declares [] = paid_gives setting.program (suc p) (λ s. tt)
  declares (l ∷ ls) =
      paid_bind setting.program (suc p) (D.local_value setting again names l.value) _ (local_value l.value)
      (λ v. paid_before setting.program (suc p) (set_local l.slot v) (D.declare_all setting again names ls) (λ st k. later_same setting.program st.world k) (declares ls))

  effect : (e : TypedExpr) → Paid (D.effect setting again names e)
  effect e = paid_dropped setting.program (suc p) (D.value setting again names e) (value e)

  effect_or : (o : Option TypedExpr) → Paid (D.effect_or setting again names o)
  effect_or None = paid_gives setting.program (suc p) (λ s. tt)
  effect_or (Some e) = effect e

  tested : (e : TypedExpr) → Paid (test (D.value setting again names e))
  tested e = paid_test setting.program (suc p) (D.value setting again names e) (value e)

  condition : (o : Option TypedExpr) → Paid (D.condition setting again names o)
  condition None = paid_gives setting.program (suc p) (λ s. true)
  condition (Some e) = tested e

  nothing : Paid (D.nothing setting again names)
  nothing = paid_gives setting.program (suc p) (λ s. tt)

  begins : (b : TypedStart) → Paid (D.begins setting again names b)
  begins Begins.Nothing = paid_gives setting.program (suc p) (λ s. tt)
  begins (Begins.Declare ls) = declares ls
  begins (Begins.Expr e) = effect e

  returns : (o : Option TypedExpr) → Paid (D.returns setting again names o)
  returns None = paid_leaves setting.program (suc p) (λ s. Returns null)
  returns (Some e) = paid_bind setting.program (suc p) (D.value setting again names e) _ (value e) (λ v. paid_leaves setting.program (suc p) (λ s. Returns v))

  -- ---- layers over statements that are paid for

  abbrev clause : TypedCatch → Clause
  clause = fold-TypedCatch Do Clause (D.stmt_step setting again names) (D.catch_step setting again names)

  abbrev OfStmt : TypedStmt → Type 0
  OfStmt s = Paid (D.does setting again names s)

  abbrev OfCatch : TypedCatch → Type 0
  OfCatch c = Paid (clause c).body

  abbrev SuchStmt : Type 0
  SuchStmt = (s : TypedStmt) × OfStmt s

  abbrev SuchCatch : Type 0
  SuchCatch = (c : TypedCatch) × OfCatch c

  stmt_does : (z : TypedStmt-F TypedStmt TypedCatch) → Paid (D.stmt_step setting again names (map-TypedStmt TypedStmt TypedCatch Do Clause (D.does setting again names) clause z)) → OfStmt (roll-TypedStmt z)
  stmt_does z h = subst (λ f. Paid f) (sym (fold-roll-TypedStmt Do Clause (D.stmt_step setting again names) (D.catch_step setting again names) z)) h

  -- with its step
  stepped : (z : TypedStmt-F TypedStmt TypedCatch) (f : Do) → ((st : State) → D.stmt_step setting again names (map-TypedStmt TypedStmt TypedCatch Do Clause (D.does setting again names) clause z) st ≡ bind (charge Steps 1 st) (λ u s. f s)) → Paid f → OfStmt (roll-TypedStmt z)
  stepped z f e h = stmt_does z (record { at = λ st s lt. subst (λ r. Comes setting.program st.world r) (sym (e st)) ((paid_bind setting.program (suc p) (charge Steps 1) (λ u s. f s) (paid_charge setting.program (suc p) Steps 1 (freely setting.program)) (λ u. h)).at st s lt) })

  each_stmt : (ss : List SuchStmt) → Each setting.program (suc p) (map (D.does setting again names) (map (λ s. s.0) ss))
  each_stmt [] = none
  each_stmt (s ∷ ss) = more s.1 (each_stmt ss)

  stmts : (ss : List SuchStmt) → Paid (all_do (map (D.does setting again names) (map (λ s. s.0) ss)))
  stmts ss = paid_all_do setting.program (suc p) _ (each_stmt ss)

  each_clause : (cs : List SuchCatch) → Clauses setting.program (suc p) (map clause (map (λ c. c.0) cs))
  each_clause [] = no_clause
  each_clause (c ∷ cs) = a_clause (clause c.0) _ c.1 (each_clause cs)

  chosen : (a : SuchStmt) (b : Bool) → Paid (λ st. D.chosen setting again names (D.does setting again names a.0) None b st)
  chosen a true = a.1
  chosen a false = paid_gives setting.program (suc p) (λ s. tt)

  chosen_of : (a b : SuchStmt) (x : Bool) → Paid (λ st. D.chosen setting again names (D.does setting again names a.0) (Some (D.does setting again names b.0)) x st)
  chosen_of a b true = a.1
  chosen_of a b false = b.1

  tries : (ss : List SuchStmt) (cs : List SuchCatch) → Paid (λ st. catching setting.program (map clause (map (λ c. c.0) cs)) (all_do (map (D.does setting again names) (map (λ s. s.0) ss)) st))
  tries ss cs = paid_catching setting.program (suc p) (all_do (map (D.does setting again names) (map (λ s. s.0) ss))) (map clause (map (λ c. c.0) cs)) (stmts ss) (each_clause cs)

  items : (slot : ℕ) (how : Conversion) (v : Value) (x : SuchStmt) → Paid (λ s. D.each_of slot how (D.does setting again names x.0) (items_of v s.world.heap) s)
  items slot how v x = record { at = λ st s lt. (paid_each_of setting.program (suc p) slot how (D.does setting again names x.0) (items_of v st.world.heap) x.1).at st s lt }

  saves : (op : DmlOp) (what : Saved) (v : Value) → Paid (λ s. save_these (site_of setting) (code_of setting again) (op_of op) (records_of what v s.world.heap) s)
  saves op what v = record { at = λ st s lt. (paid_save_these setting.program (site_of setting) (suc p) (code_of setting again) (orderly setting again p enough) (op_of op) (records_of what v st.world.heap)).at st s lt }

  stmt_layer : (y : TypedStmt-F SuchStmt SuchCatch) → OfStmt (roll-TypedStmt (map-TypedStmt SuchStmt SuchCatch TypedStmt TypedCatch (λ e. e.0) (λ e. e.0) y))
  stmt_layer (TypedStmt-F.Block ss) = stmt_does (TypedStmt-F.Block (map (λ s. s.0) ss)) (stmts ss)
  stmt_layer (TypedStmt-F.Declare ls) = stepped (TypedStmt-F.Declare ls) _ (λ st. refl) (declares ls)
  stmt_layer (TypedStmt-F.Expr e) = stepped (TypedStmt-F.Expr e) _ (λ st. refl) (effect e)
  stmt_layer (TypedStmt-F.If e a None) = stepped (TypedStmt-F.If e a.0 None) _ (λ st. refl) (paid_bind setting.program (suc p) (test (D.value setting again names e)) _ (tested e) (chosen a))
  stmt_layer (TypedStmt-F.If e a (Some b)) = stepped (TypedStmt-F.If e a.0 (Some b.0)) _ (λ st. refl) (paid_bind setting.program (suc p) (test (D.value setting again names e)) _ (tested e) (chosen_of a b))
  stmt_layer (TypedStmt-F.While e a) = stepped (TypedStmt-F.While e a.0) _ (λ st. refl) (enough.loop _ _ _ (tested e) a.1 nothing)
  stmt_layer (TypedStmt-F.Do a e) = stepped (TypedStmt-F.Do a.0 e) _ (λ st. refl) (paid_looping setting.program (suc p) (D.does setting again names a.0) _ a.1 (enough.loop _ _ _ (tested e) a.1 nothing))
  stmt_layer (TypedStmt-F.For start c next a) =
      stepped (TypedStmt-F.For start c next a.0) _ (λ st. refl) (paid_bind setting.program (suc p) (D.begins setting again names start) _ (begins start) (λ u. enough.loop _ _ _ (condition c) a.1 (effect_or next)))
  stmt_layer (TypedStmt-F.ForEach slot how e a) = stepped (TypedStmt-F.ForEach slot how e a.0) _ (λ st. refl) (paid_bind setting.program (suc p) (D.value setting again names e) _ (value e) (λ v. items slot how v a))
  stmt_layer (TypedStmt-F.Return e) = stepped (TypedStmt-F.Return e) _ (λ st. refl) (returns e)
  stmt_layer TypedStmt-F.Break = stepped TypedStmt-F.Break _ (λ st. refl) (paid_leaves setting.program (suc p) (λ s. Breaks))
  stmt_layer TypedStmt-F.Continue = stepped TypedStmt-F.Continue _ (λ st. refl) (paid_leaves setting.program (suc p) (λ s. Continues))
  stmt_layer (TypedStmt-F.Throw e) = stepped (TypedStmt-F.Throw e) _ (λ st. refl) (paid_bind setting.program (suc p) (D.value setting again names e) _ (value e) (paid_throw setting.program (suc p)))
  stmt_layer (TypedStmt-F.Try ss cs None) = stepped (TypedStmt-F.Try (map (λ s. s.0) ss) (map (λ c. c.0) cs) None) _ (λ st. refl) (tries ss cs)
  stmt_layer (TypedStmt-F.Try ss cs (Some last)) =
      stepped (TypedStmt-F.Try (map (λ s. s.0) ss) (map (λ c. c.0) cs) (Some (map (λ s. s.0) last))) _ (λ st. refl)
      (paid_finally setting.program (suc p) _ (all_do (map (D.does setting again names) (map (λ s. s.0) last))) (tries ss cs) (stmts last))
  stmt_layer (TypedStmt-F.Dml op what e) = stepped (TypedStmt-F.Dml op what e) _ (λ st. refl) (paid_bind setting.program (suc p) (D.value setting again names e) _ (value e) (saves op what))

  catch_layer : (y : TypedCatch-F SuchStmt SuchCatch) → OfCatch (roll-TypedCatch (map-TypedCatch SuchStmt SuchCatch TypedStmt TypedCatch (λ e. e.0) (λ e. e.0) y))
  catch_layer y =
      subst (λ (c : Clause). Paid c.body) (sym (fold-roll-TypedCatch Do Clause (D.stmt_step setting again names) (D.catch_step setting again names) (record { kind = y.kind; slot = y.slot; body = map (λ s. s.0) y.body }))) (stmts y.body)

  paid_stmt : (s : TypedStmt) → OfStmt s
  paid_stmt = ind-TypedStmt OfStmt OfCatch (λ x y is. subst (λ z. OfStmt (roll-TypedStmt z)) is (stmt_layer y)) (λ x y is. subst (λ z. OfCatch (roll-TypedCatch z)) is (catch_layer y))

  each_of : (ss : List TypedStmt) → Each setting.program (suc p) (map (D.does setting again names) ss)
  each_of [] = none
  each_of (s ∷ ss) = more (paid_stmt s) (each_of ss)

  pub paid_stmts : (ss : List TypedStmt) → Paid (D.does_all setting again names ss)
  paid_stmts ss = paid_all_do setting.program (suc p) _ (each_of ss)
