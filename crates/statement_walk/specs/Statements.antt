-- The walk over statements: what one comes to by what those in it come to, beside the locals that are in scope before
-- and behind it, or its first fault (docs/language.md, "Statements in code").
use Rattle.std.specs.Prelude.{Bool, true, List, [], ◌∷◌, ◌++◌, length, take, Option, None, Some}
use Rattle.fault_words.specs.declared.fault.FaultWord.TheVariants.{MisplacedJump}
use Rattle.apex_syntax.specs.declared.expr.Expr.{Expr}
use Rattle.apex_syntax.specs.declared.expr.TypeTree.{TypeTree}
use Rattle.apex_syntax.specs.declared.stmt.Body.{Body}
use Rattle.apex_syntax.specs.declared.stmt.Catch.{Catch}
use Rattle.apex_syntax.specs.declared.stmt.ForStart.{ForStart}
use Rattle.apex_syntax.specs.declared.stmt.Stmt.{Stmt}
use Rattle.apex_syntax.specs.declared.stmt.Stmt.TheOpen.{Stmt-F, Body-F, Catch-F}
use Rattle.apex_syntax.specs.declared.stmt.Stmt.TheFolds.{fold-Stmt, fold-Body, fold-Catch}
use Rattle.apex_syntax.specs.declared.word.Word.{Word}
use Rattle.statement_walk.specs.Flows.{caught, each}
use Rattle.local_scopes.specs.Locals.{fresh, local}
use Rattle.statement_walk.specs.Scenes.{Locals, Scene}
use Rattle.statement_walk.specs.Simples.{value_in, tested, tested_where, read_in, read_where, declaration, started, answered, thrown, dml, jump}
use Rattle.static_types.specs.declared.kind.ValueType.{ValueType}
use Rattle.type_names.specs.TypeTrees.{type_of}
use Rattle.type_names.specs.Walks.{Walk, Gives, wrong, onward}
use Rattle.typed_program.specs.declared.stmt.TypedCatch.{TypedCatch}
use Rattle.typed_program.specs.declared.stmt.TypedStmt.{TypedStmt}
use Rattle.typed_program.specs.declared.stmt.TypedStmt.TheVariants as T
use Rattle.typed_program.specs.declared.expr.Conversion.{Conversion}
use Rattle.typed_program.specs.declared.expr.TypedExpr.{TypedExpr}

-- ---- what the statements in a statement come to

-- beside the locals before it and behind it
abbrev pub Amid : Type 0 → Type 0
Amid A = Locals → Walk (A × Locals)

-- where it stands in a loop or in none
abbrev pub StmtWalk : Type 0
StmtWalk = Bool → Amid TypedStmt

abbrev pub BodyWalk : Type 0
BodyWalk = Bool → Amid (List TypedStmt)

abbrev pub CatchWalk : Type 0
CatchWalk = Bool → Amid TypedCatch

-- ---- scopes

-- the locals of a scope are gone behind it
abbrev pub ended : {A : Type 0} → Locals → A × Locals → Walk (A × Locals)
ended locals r = Gives (r.0, take (length locals) r.1)

abbrev pub scoped : {A : Type 0} → Amid A → Amid A
scoped go locals = onward (go locals) (ended locals)

-- with one local more
abbrev pub scoped_with : {A : Type 0} → Word → ValueType → Amid A → Amid A
scoped_with w kind go locals = onward (go (locals ++ local w kind ∷ [])) (ended locals)

-- ---- several statements, from first to last

abbrev pub stmts_from : List StmtWalk → Bool → List TypedStmt → Amid (List TypedStmt)
stmts_from [] in_loop done locals = Gives (done, locals)
stmts_from (s ∷ ss) in_loop done locals = onward (s in_loop locals) (λ r. stmts_from ss in_loop (done ++ r.0 ∷ []) r.1)

abbrev pub catches_from : List CatchWalk → Bool → List TypedCatch → Amid (List TypedCatch)
catches_from [] in_loop done locals = Gives (done, locals)
catches_from (c ∷ cs) in_loop done locals = onward (c in_loop locals) (λ r. catches_from cs in_loop (done ++ r.0 ∷ []) r.1)

abbrev pub stmt_where : Option StmtWalk → Bool → Amid (Option TypedStmt)
stmt_where None in_loop locals = Gives (None, locals)
stmt_where (Some s) in_loop locals = onward (scoped (s in_loop) locals) (λ r. Gives (Some r.0, r.1))

abbrev pub body_where : Option BodyWalk → Bool → Amid (Option (List TypedStmt))
body_where None in_loop locals = Gives (None, locals)
body_where (Some b) in_loop locals = onward (scoped (b in_loop) locals) (λ r. Gives (Some r.0, r.1))

-- ---- the steps

-- it leaves the locals as they are
abbrev pub still : {A : Type 0} → Locals → Walk A → Walk (A × Locals)
still locals w = onward w (λ a. Gives (a, locals))

abbrev pub block_by : BodyWalk → Bool → Amid TypedStmt
block_by b in_loop locals = onward (scoped (b in_loop) locals) (λ r. Gives (T.Block r.0, r.1))

module _ (s : Scene) where
  abbrev pub if_by : Expr → StmtWalk → Option StmtWalk → Bool → Amid TypedStmt
  if_by c then' else' in_loop locals =
      onward (tested s locals c) (λ test.
      onward (scoped (then' in_loop) locals) (λ first.
      onward (stmt_where else' in_loop first.1) (λ second.
      Gives (T.If test first.0 second.0, second.1))))

  abbrev pub while_by : Expr → StmtWalk → Amid TypedStmt
  while_by c again locals =
      onward (tested s locals c) (λ test.
      onward (scoped (again true) locals) (λ r.
      Gives (T.While test r.0, r.1)))

  abbrev pub do_by : StmtWalk → Expr → Amid TypedStmt
  do_by again c locals =
      onward (scoped (again true) locals) (λ r.
      onward (tested s r.1 c) (λ test.
      Gives (T.Do r.0 test, r.1)))

  -- what it begins with, its condition and its step, and then what it repeats
  abbrev pub for_by : ForStart → Option Expr → Option Expr → StmtWalk → Amid TypedStmt
  for_by start c step again locals =
      onward (started s start locals) (λ first.
      onward (tested_where s first.1 c) (λ test.
      onward (read_where s first.1 step) (λ next.
      onward (scoped (again true) first.1) (λ r.
      ended locals (T.For first.0 test next r.0, r.1)))))

  abbrev pub each_of : Word → ValueType → StmtWalk → Locals → Conversion × TypedExpr → Walk (TypedStmt × Locals)
  each_of w kind again locals e =
      onward (scoped_with w kind (again true) locals) (λ r. Gives (T.ForEach (length locals) e.0 e.1 r.0, r.1))

  -- the list doesn't see the variable
  abbrev pub each_by : TypeTree → Word → Expr → StmtWalk → Amid TypedStmt
  each_by t w x again locals =
      onward (type_of s.around.names t) (λ kind.
      onward (fresh locals w) (λ _.
      onward (value_in s locals x) (λ value.
      onward (each s.around.heads kind value) (each_of w kind again locals))))

  abbrev pub try_by : BodyWalk → List CatchWalk → Option BodyWalk → Bool → Amid TypedStmt
  try_by b cs f in_loop locals =
      onward (scoped (b in_loop) locals) (λ body.
      onward (catches_from cs in_loop [] body.1) (λ catches.
      onward (body_where f in_loop catches.1) (λ last.
      Gives (T.Try body.0 catches.0 last.0, last.1))))

  abbrev pub stmt_step : Stmt-F StmtWalk BodyWalk CatchWalk → StmtWalk
  stmt_step (Stmt-F.Block b) in_loop locals = block_by b in_loop locals
  stmt_step (Stmt-F.Empty sp) in_loop locals = Gives (T.Block [], locals)
  stmt_step (Stmt-F.Declare sp t ds) in_loop locals = onward (declaration s t ds locals) (λ r. Gives (T.Declare r.0, r.1))
  stmt_step (Stmt-F.Expr sp x) in_loop locals = still locals (onward (read_in s locals x) (λ tree. Gives (T.Expr tree)))
  stmt_step (Stmt-F.If sp c then' else') in_loop locals = if_by c then' else' in_loop locals
  stmt_step (Stmt-F.While sp c again) in_loop locals = while_by c again locals
  stmt_step (Stmt-F.Do sp again c) in_loop locals = do_by again c locals
  stmt_step (Stmt-F.For sp start c step again) in_loop locals = for_by start c step again locals
  stmt_step (Stmt-F.ForEach sp t w x again) in_loop locals = each_by t w x again locals
  stmt_step (Stmt-F.Return sp x) in_loop locals = still locals (answered s locals sp.from x)
  stmt_step (Stmt-F.Break sp) in_loop locals = still locals (jump in_loop sp.from T.Break)
  stmt_step (Stmt-F.Continue sp) in_loop locals = still locals (jump in_loop sp.from T.Continue)
  stmt_step (Stmt-F.Throw sp x) in_loop locals = still locals (thrown s locals x)
  stmt_step (Stmt-F.Try sp b cs f) in_loop locals = try_by b cs f in_loop locals
  stmt_step (Stmt-F.Dml sp op x) in_loop locals = still locals (dml s locals op x)
  -- constructors call others in front of all their statements
  stmt_step (Stmt-F.This sp args) in_loop locals = wrong MisplacedJump sp.from
  stmt_step (Stmt-F.Super sp args) in_loop locals = wrong MisplacedJump sp.from

  abbrev pub body_step : Body-F StmtWalk BodyWalk CatchWalk → BodyWalk
  body_step b in_loop locals = stmts_from b.stmts in_loop [] locals

  abbrev pub caught_by : Word → BodyWalk → Bool → Locals → ValueType → Walk (TypedCatch × Locals)
  caught_by w b in_loop locals kind =
      onward (scoped_with w kind (b in_loop) locals) (λ r.
      Gives (record { kind = kind; slot = length locals; body = r.0 }, r.1))

  abbrev pub catch_step : Catch-F StmtWalk BodyWalk CatchWalk → CatchWalk
  catch_step c in_loop locals =
      onward (caught s.around.names s.around.heads c.class c.member) (λ kind.
      onward (fresh locals c.name) (λ _.
      caught_by c.name c.body in_loop locals kind))

  -- ---- the folds

  abbrev pub statement : Stmt → StmtWalk
  statement = fold-Stmt StmtWalk BodyWalk CatchWalk stmt_step body_step catch_step

  abbrev pub body : Body → BodyWalk
  body = fold-Body StmtWalk BodyWalk CatchWalk stmt_step body_step catch_step

  abbrev pub catching : Catch → CatchWalk
  catching = fold-Catch StmtWalk BodyWalk CatchWalk stmt_step body_step catch_step
