-- Statements without statements in them (docs/language.md, "Statements in code").
use Rattle.std.specs.Prelude.{ℕ, Bool, cond, List, [], ◌∷◌, ◌++◌, length, map, Option, None, Some}
use Rattle.fault_words.specs.declared.fault.FaultWord.TheVariants.{MisplacedJump}
use Rattle.apex_syntax.specs.declared.expr.Expr.{Expr}
use Rattle.apex_syntax.specs.declared.expr.TypeTree.{TypeTree}
use Rattle.apex_syntax.specs.declared.stmt.Declarator.{Declarator}
use Rattle.apex_syntax.specs.declared.stmt.DmlOp.{DmlOp}
use Rattle.apex_syntax.specs.declared.stmt.ForStart.{ForStart}
use Rattle.apex_syntax.specs.declared.stmt.ForStart.TheVariants as F
use Rattle.expression_walk.specs.Expressions.{expression}
use Rattle.statement_walk.specs.Constructions.{own_constructor, parent_constructor, constructed}
use Rattle.statement_walk.specs.Flows.{read, returned}
use Rattle.local_scopes.specs.Locals.{Nothing as Done, fresh, local}
use Rattle.statement_walk.specs.Saves.{saved}
use Rattle.statement_walk.specs.Scenes.{Locals, Scene, sight_in}
use Rattle.static_types.specs.declared.kind.ValueType.{ValueType}
use Rattle.static_types.specs.declared.kind.ValueType.TheVariants as V
use Rattle.type_names.specs.TypeTrees.{type_of}
use Rattle.type_names.specs.Walks.{Walk, Gives, wrong, onward, all}
use Rattle.typed_program.specs.declared.stmt.TypedLocal.{TypedLocal}
use Rattle.typed_program.specs.declared.stmt.TypedStart.{TypedStart}
use Rattle.typed_program.specs.declared.stmt.TypedStart.TheVariants as S
use Rattle.typed_program.specs.declared.stmt.TypedStmt.{TypedStmt}
use Rattle.typed_program.specs.declared.stmt.TypedStmt.TheVariants as T
use Rattle.typed_program.specs.declared.expr.TypedExpr.{TypedExpr}
use Rattle.typed_program.specs.declared.unit.ParentCall.{ParentCall}
use Rattle.typed_values.specs.declared.typed.Typed.{Typed}
use Rattle.typed_values.specs.Fits.{condition, fitted, stored}

module _ (s : Scene) (locals : Locals) where
  abbrev pub value_in : Expr → Walk Typed
  value_in x = expression (sight_in s locals) x

  abbrev pub value_where : Option Expr → Walk (Option Typed)
  value_where (Some x) = onward (value_in x) (λ value. Gives (Some value))
  value_where None = Gives None

  abbrev pub tested : Expr → Walk TypedExpr
  tested x = onward (value_in x) (condition s.around.heads)

  abbrev pub tested_where : Option Expr → Walk (Option TypedExpr)
  tested_where (Some x) = onward (tested x) (λ tree. Gives (Some tree))
  tested_where None = Gives None

  abbrev pub read_in : Expr → Walk TypedExpr
  read_in x = onward (value_in x) read

  abbrev pub read_where : Option Expr → Walk (Option TypedExpr)
  read_where (Some x) = onward (read_in x) (λ tree. Gives (Some tree))
  read_where None = Gives None

  abbrev pub initial : ValueType → Option Expr → Walk (Option TypedExpr)
  initial kind (Some x) = onward (value_in x) (λ value. onward (stored s.around.heads value kind) (λ tree. Gives (Some tree)))
  initial kind None = Gives None

  abbrev pub answered : ℕ → Option Expr → Walk TypedStmt
  answered at x = onward (value_where x) (λ value. onward (returned s.around.heads s.due at value) (λ tree. Gives (T.Return tree)))

  abbrev pub thrown : Expr → Walk TypedStmt
  thrown x = onward (value_in x) (λ value. onward (fitted s.around.heads value V.AnyException) (λ tree. Gives (T.Throw tree)))

  abbrev pub dml : DmlOp → Expr → Walk TypedStmt
  dml op x = onward (value_in x) (λ value. onward (saved value) (λ what. Gives (T.Dml op what.0 what.1)))

  abbrev pub arguments_in : List Expr → Walk (List Typed)
  arguments_in xs = all (map (expression (sight_in s locals)) xs)

-- ---- declarations: a name is judged before its value, which doesn't see it

abbrev pub declared_as : Scene → ValueType → Declarator → Locals → Option TypedExpr → TypedLocal × Locals
declared_as s kind d locals value = (record { slot = length locals; value = value }, locals ++ local d.name kind ∷ [])

abbrev pub declared : Scene → ValueType → Declarator → Locals → Walk (TypedLocal × Locals)
declared s kind d locals =
    onward (fresh locals d.name) (λ _. onward (initial s locals kind d.value) (λ value. Gives (declared_as s kind d locals value)))

-- these locals, and those that follow them
abbrev pub declared_from : Scene → ValueType → List Declarator → List TypedLocal → Locals → Walk (List TypedLocal × Locals)
declared_from s kind [] done locals = Gives (done, locals)
declared_from s kind (d ∷ ds) done locals = onward (declared s kind d locals) (λ r. declared_from s kind ds (done ++ r.0 ∷ []) r.1)

abbrev pub declaration : Scene → TypeTree → List Declarator → Locals → Walk (List TypedLocal × Locals)
declaration s t ds locals = onward (type_of s.around.names t) (λ kind. declared_from s kind ds [] locals)

abbrev pub started : Scene → ForStart → Locals → Walk (TypedStart × Locals)
started s F.Nothing locals = Gives (S.Nothing, locals)
started s (F.Declare t ds) locals = onward (declaration s t ds locals) (λ r. Gives (S.Declare r.0, r.1))
started s (F.Expr x) locals = onward (read_in s locals x) (λ tree. Gives (S.Expr tree, locals))

-- ---- what stands in some places alone

abbrev pub looping : Bool → ℕ → Walk Done
looping in_loop at = cond in_loop (Gives tt) (wrong MisplacedJump at)

abbrev pub jump : Bool → ℕ → TypedStmt → Walk TypedStmt
jump in_loop at tree = onward (looping in_loop at) (λ _. Gives tree)

-- ---- constructors that are called in front of the statements of others

abbrev pub called_own : Scene → Locals → ℕ → List Expr → Walk ParentCall
called_own s locals at args =
    onward (own_constructor s.around at (length args)) (λ how.
    onward (arguments_in s locals args) (constructed s.around how at))

abbrev pub called_parent : Scene → Locals → ℕ → List Expr → Walk ParentCall
called_parent s locals at args =
    onward (parent_constructor s.around at (length args)) (λ how.
    onward (arguments_in s locals args) (constructed s.around how at))
