-- Steps of walks over statements.
use Rattle.std.proofs.Common.{◌≡◌, ℕ, ◌+◌, ◌<◌, Bool, List, [], ◌∷◌, ◌++◌, length, take, drop, get_or, map, Result, Ok, Err, Option, None, Some, option_map, refl, sym, ap, ◌∙◌, subst}
use Rattle.std.proofs.lemmas.List.{drop_more}
use Rattle.apex_syntax.specs.declared.stmt.Body.{Body}
use Rattle.apex_syntax.specs.declared.stmt.Catch.{Catch}
use Rattle.apex_syntax.specs.declared.expr.Expr.{Expr}
use Rattle.apex_syntax.specs.declared.expr.TypeTree.{TypeTree}
use Rattle.apex_syntax.specs.declared.stmt.Declarator.{Declarator}
use Rattle.apex_syntax.specs.declared.stmt.ForStart.{ForStart}
use Rattle.apex_syntax.specs.declared.word.Word.{Word}
use Rattle.apex_syntax.specs.declared.stmt.Stmt.{Stmt}
use Rattle.apex_syntax.specs.declared.stmt.Stmt.TheFolds.{fold-roll-Stmt}
use Rattle.apex_syntax.specs.declared.stmt.Stmt.TheOpen.{Stmt-F}
use Rattle.apex_syntax.specs.declared.stmt.Stmt.TheVariants.{While, rolls-While, For, rolls-For, ForEach, rolls-ForEach, Try, rolls-Try}
use Rattle.apex_text.specs.declared.place.Span.{Span}
use Rattle.statement_walk.specs.Scenes.{Locals, Scene, Threads}
use Rattle.statement_walk.specs.Simples.{declared, declared_from}
use Rattle.statement_walk.specs.Statements.{StmtWalk, BodyWalk, CatchWalk, stmt_step, body_step, catch_step, statement, body, catching, catches_from, body_where, ended, scoped, while_by, for_by, each_by, try_by}
use Rattle.static_types.specs.declared.kind.ValueType.{ValueType}
use Rattle.type_names.specs.declared.fault.WalkFault.{WalkFault}
use Rattle.type_names.specs.declared.fault.WalkFault.TheVariants as Fault
use Rattle.type_names.specs.Walks.{Walk, Gives, Fails, onward}
use Rattle.typed_program.specs.declared.stmt.TypedCatch.{TypedCatch}
use Rattle.typed_program.specs.declared.stmt.TypedLocal.{TypedLocal}
use Rattle.typed_program.specs.declared.stmt.TypedStmt.{TypedStmt}
use Rattle.typed_program.specs.declared.stmt.TypedStmt.TheVariants as T

module _ {A B : Type 0} where
  goes_to : (w : Walk A) (go : A → Walk B) (a : A) (b : B) → w ≡ Gives a → go a ≡ Gives b → onward w go ≡ Gives b
  goes_to w go a b e h = ap (λ v. onward v go) e ∙ h

  halts : (w : Walk A) (go : A → Walk B) (fault : WalkFault) → Fails w fault → Fails (onward w go) fault
  halts w go (Fault.Wrong fault) h = ap (λ v. onward v go) h
  halts w go Fault.NoMemory h = h

-- a local that has a fault, behind those that have none
module _ (s : Scene) (kind : ValueType) (ds : List Declarator) (i : ℕ) (d : Declarator) (lt : i < length ds) (is : d ≡ get_or ds i d) where
  left : drop i ds ≡ d ∷ drop (i + 1) ds
  left = drop_more ds i d lt ∙ ap (λ x. x ∷ drop (i + 1) ds) (sym is)

  pub local_halts : (done : List TypedLocal) (locals : Locals) (fault : WalkFault) (whole : Walk (List TypedLocal × Locals))
      → Fails (declared s kind d locals) fault → declared_from s kind (drop i ds) done locals ≡ whole → Fails whole fault
  local_halts done locals fault whole h inv =
      subst (λ w. Fails w fault) (sym (ap (λ l. declared_from s kind l done locals) left) ∙ inv)
      (halts (declared s kind d locals) (λ r. declared_from s kind (drop (i + 1) ds) (done ++ r.0 ∷ []) r.1) fault h)

module _ (s : Scene) (t : Stmt) (sp : Span) (again next : Stmt) (in_loop : Bool) (locals end : Locals) (r : Result TypedStmt WalkFault) where
  while_is : (c : Expr) → t ≡ While sp c again → statement s t in_loop locals ≡ while_by s c (statement s again) locals
  while_is c e =
      ap (λ x. statement s x in_loop locals) (e ∙ sym (rolls-While sp c again))
      ∙ ap (λ (w : StmtWalk). w in_loop locals) (fold-roll-Stmt StmtWalk BodyWalk CatchWalk (stmt_step s) (body_step s) (catch_step s) (Stmt-F.While sp c again))

  pub while_threads : (c d : Expr) → t ≡ While sp c again → d ≡ c → next ≡ again → Threads (while_by s d (statement s next) locals) r end → Threads (statement s t in_loop locals) r end
  while_threads c d e x y h =
      subst (λ w. Threads w r end) (sym (while_is c e))
      (subst (λ a. Threads (while_by s c (statement s a) locals) r end) y (subst (λ k. Threads (while_by s k (statement s next) locals) r end) x h))

  for_is : (start : ForStart) (c step : Option Expr) → t ≡ For sp start c step again → statement s t in_loop locals ≡ for_by s start c step (statement s again) locals
  for_is start c step e =
      ap (λ x. statement s x in_loop locals) (e ∙ sym (rolls-For sp start c step again))
      ∙ ap (λ (w : StmtWalk). w in_loop locals) (fold-roll-Stmt StmtWalk BodyWalk CatchWalk (stmt_step s) (body_step s) (catch_step s) (Stmt-F.For sp start c step again))

  pub for_threads : (start : ForStart) (c step : Option Expr) → t ≡ For sp start c step again → next ≡ again → Threads (for_by s start c step (statement s next) locals) r end → Threads (statement s t in_loop locals) r end
  for_threads start c step e y h =
      subst (λ w. Threads w r end) (sym (for_is start c step e)) (subst (λ a. Threads (for_by s start c step (statement s a) locals) r end) y h)

  each_is : (kind : TypeTree) (name : Word) (list : Expr) → t ≡ ForEach sp kind name list again → statement s t in_loop locals ≡ each_by s kind name list (statement s again) locals
  each_is kind name list e =
      ap (λ x. statement s x in_loop locals) (e ∙ sym (rolls-ForEach sp kind name list again))
      ∙ ap (λ (w : StmtWalk). w in_loop locals) (fold-roll-Stmt StmtWalk BodyWalk CatchWalk (stmt_step s) (body_step s) (catch_step s) (Stmt-F.ForEach sp kind name list again))

  pub each_threads : (kind : TypeTree) (name : Word) (list items : Expr) → t ≡ ForEach sp kind name list again → items ≡ list → next ≡ again
      → Threads (each_by s kind name items (statement s next) locals) r end → Threads (statement s t in_loop locals) r end
  each_threads kind name list items e x y h =
      subst (λ w. Threads w r end) (sym (each_is kind name list e))
      (subst (λ a. Threads (each_by s kind name list (statement s a) locals) r end) y (subst (λ k. Threads (each_by s kind name k (statement s next) locals) r end) x h))

module _ (s : Scene) where
  try_is : (t : Stmt) (sp : Span) (b : Body) (cs : List Catch) (f : Option Body) (in_loop : Bool) (locals : Locals) → t ≡ Try sp b cs f
      → statement s t in_loop locals ≡ try_by s (body s b) (map (catching s) cs) (option_map (body s) f) in_loop locals
  try_is t sp b cs None in_loop locals e =
      ap (λ x. statement s x in_loop locals) (e ∙ sym (rolls-Try sp b cs None))
      ∙ ap (λ (w : StmtWalk). w in_loop locals) (fold-roll-Stmt StmtWalk BodyWalk CatchWalk (stmt_step s) (body_step s) (catch_step s) (Stmt-F.Try sp b cs None))
  try_is t sp b cs (Some f) in_loop locals e =
      ap (λ x. statement s x in_loop locals) (e ∙ sym (rolls-Try sp b cs (Some f)))
      ∙ ap (λ (w : StmtWalk). w in_loop locals) (fold-roll-Stmt StmtWalk BodyWalk CatchWalk (stmt_step s) (body_step s) (catch_step s) (Stmt-F.Try sp b cs (Some f)))

  pub try_gives : (t : Stmt) (sp : Span) (b : Body) (cs xs : List Catch) (f : Option Body) (in_loop : Bool) (locals after behind end : Locals)
      (made : List TypedStmt) (caught : List TypedCatch) (last : Option (List TypedStmt))
      → t ≡ Try sp b cs f → xs ≡ cs
      → scoped (body s b in_loop) locals ≡ Gives (made, after)
      → catches_from (map (catching s) xs) in_loop [] after ≡ Gives (caught, behind)
      → body_where (option_map (body s) f) in_loop behind ≡ Gives (last, end)
      → statement s t in_loop locals ≡ Gives (T.Try made caught last, end)
  try_gives t sp b cs xs f in_loop locals after behind end made caught last e x one two three =
      try_is t sp b cs f in_loop locals e
      ∙ goes_to _ _ (made, after) _ one
      (goes_to _ _ (caught, behind) _ (ap (λ l. catches_from (map (catching s) l) in_loop [] after) (sym x) ∙ two)
      (goes_to _ _ (last, end) _ three refl))

-- a scope is left, whether its statements have a fault or none
pub left_by : {A : Type 0} (w : Walk (A × Locals)) (locals after end : Locals) (r : Result A WalkFault) → Threads w r after → end ≡ take (length locals) after → Threads (onward w (ended locals)) r end
left_by w locals after end (Ok a) h e = ap (λ v. onward v (ended locals)) h ∙ ap (λ l. Gives (a, l)) (sym e)
left_by w locals after end (Err fault) h e = halts w (ended locals) fault h
