-- What statements do (docs/language.md, "What code does").
use Rattle.std.specs.Prelude.{ℕ, Bool, true, false, cond, List, [], ◌∷◌, map, Option, None, Some}
use Rattle.activations.specs.declared.abrupt.Abrupt.TheVariants.{Returns, Breaks, Continues}
use Rattle.apex_num.specs.declared.cell.Cell.{Cell}
use Rattle.apex_num.specs.declared.kind.LimitKind.TheVariants.{Steps}
use Rattle.platform_errors.specs.declared.thrown.Thrown.TheVariants.{NullObject}
use Rattle.save_meaning.specs.Results.{Gives, Stops, Leaves, bind}
use Rattle.request_states.specs.Runs.{Setting, site_of}
use Rattle.request_states.specs.States.{State, Res, charge, set_local, throws}
use Rattle.request_states.specs.Statements.{op_of, records_of, save_these}
use Rattle.request_states.specs.Values.{null}
use Rattle.static_types.specs.declared.kind.ValueType.{ValueType}
use Rattle.txn_heap.specs.declared.thing.Value.{Value}
use Rattle.typed_program.specs.declared.expr.Conversion.{Conversion}
use Rattle.typed_program.specs.declared.expr.TypedExpr.{TypedExpr}
use Rattle.typed_program.specs.declared.stmt.TypedLocal.{TypedLocal}
use Rattle.typed_program.specs.declared.stmt.TypedStart.{TypedStart}
use Rattle.typed_program.specs.declared.stmt.TypedStart.TheVariants as Begins
use Rattle.typed_program.specs.declared.stmt.TypedStmt.{TypedStmt}
use Rattle.typed_program.specs.declared.stmt.TypedStmt.TheOpen.{TypedStmt-F, TypedCatch-F}
use Rattle.typed_program.specs.declared.stmt.TypedStmt.TheFolds.{fold-TypedStmt}
use Rattle.value_operators.specs.Operators.{converted}
use Rattle.apex_meaning.specs.Collections.{items_of}
use Rattle.apex_meaning.specs.Exceptions.{Clause, catching, throw}
use Rattle.apex_meaning.specs.Expressions.{value_of}
use Rattle.apex_meaning.specs.Firings.{code_of}
use Rattle.apex_meaning.specs.Meanings.{Again, Do, Run, Test, all_do, calc, dropped, finally, looping, test, turn, truth_of}

-- ---- loops over collections

-- each item in turn, as they were at the start; each test costs a step
abbrev pub each : ℕ → Conversion → Do → List Value → Do
each slot how body [] st = charge Steps 1 st
each slot how body (v ∷ vs) st =
    bind (charge Steps 1 st) (λ u s.
    bind (calc (converted how v) s) (λ w s1.
    looping (body (set_local slot w s1)) (each slot how body vs)))

abbrev pub each_of : ℕ → Conversion → Do → Option (List Value) → Do
each_of slot how body None st = throws NullObject st
each_of slot how body (Some vs) st = each slot how body vs st

-- ---- forms

abbrev pub finally_or : Option Do → Res (Unit {0}) → Res (Unit {0})
finally_or None r = r
finally_or (Some last) r = finally r last

abbrev pub all_or : Option (List Do) → Option Do
all_or None = None
all_or (Some ds) = Some (all_do ds)

abbrev pub do_or : Option Do → Do
do_or None st = Gives tt st
do_or (Some d) st = d st

module _ (setting : Setting) (again : Again) (names : List (List ℕ)) where
  abbrev pub value : TypedExpr → Run
  value e = value_of setting again names e

  -- a local without a value is null
  abbrev pub local_value : Option TypedExpr → Run
  local_value None st = Gives null st
  local_value (Some e) st = value e st

  abbrev pub declare_all : List TypedLocal → Do
  declare_all [] st = Gives tt st
  declare_all (l ∷ ls) st = bind (local_value l.value st) (λ v s. declare_all ls (set_local l.slot v s))

  abbrev pub effect : TypedExpr → Do
  effect e st = dropped (value e st)

  abbrev pub effect_or : Option TypedExpr → Do
  effect_or None st = Gives tt st
  effect_or (Some e) st = effect e st

  -- a loop without a condition goes on
  abbrev pub condition : Option TypedExpr → Test
  condition None st = Gives true st
  condition (Some e) st = test (value e) st

  abbrev pub nothing : Do
  nothing st = Gives tt st

  abbrev pub begins : TypedStart → Do
  begins Begins.Nothing st = Gives tt st
  begins (Begins.Declare ls) st = declare_all ls st
  begins (Begins.Expr e) st = effect e st

  abbrev pub chosen : Do → Option Do → Bool → Do
  chosen a b true st = a st
  chosen a b false st = do_or b st

  abbrev pub returns : Option TypedExpr → Do
  returns None st = Stops (Leaves (Returns null)) st
  returns (Some e) st = bind (value e st) (λ v s. Stops (Leaves (Returns v)) s)

  -- what a statement does once it has started
  abbrev pub started : TypedStmt-F Do Clause → Do
  started (TypedStmt-F.Block ds) st = all_do ds st
  started (TypedStmt-F.Declare ls) st = declare_all ls st
  started (TypedStmt-F.Expr e) st = effect e st
  started (TypedStmt-F.If c a b) st = bind (test (value c) st) (chosen a b)
  started (TypedStmt-F.While c body) st = again.loop (test (value c)) body nothing st
  started (TypedStmt-F.Do body c) st = looping (body st) (again.loop (test (value c)) body nothing)
  started (TypedStmt-F.For start c next body) st = bind (begins start st) (λ u s. again.loop (condition c) body (effect_or next) s)
  started (TypedStmt-F.ForEach slot how e body) st = bind (value e st) (λ v s. each_of slot how body (items_of v s.world.heap) s)
  started (TypedStmt-F.Return e) st = returns e st
  started TypedStmt-F.Break st = Stops (Leaves Breaks) st
  started TypedStmt-F.Continue st = Stops (Leaves Continues) st
  started (TypedStmt-F.Throw e) st = bind (value e st) throw
  started (TypedStmt-F.Try body clauses last) st = finally_or (all_or last) (catching setting.program clauses (all_do body st))
  started (TypedStmt-F.Dml op what e) st = bind (value e st) (λ v s. save_these (site_of setting) (code_of setting again) (op_of op) (records_of what v s.world.heap) s)

  -- a statement costs a step when it starts; one in braces costs nothing beside those in it
  abbrev pub stmt_step : TypedStmt-F Do Clause → Do
  stmt_step (TypedStmt-F.Block ds) st = all_do ds st
  stmt_step form st = bind (charge Steps 1 st) (λ u s. started form s)

  abbrev pub catch_step : TypedCatch-F Do Clause → Clause
  catch_step c = record { kind = c.kind; slot = c.slot; body = all_do c.body }

  abbrev pub does : TypedStmt → Do
  does = fold-TypedStmt Do Clause stmt_step catch_step

  abbrev pub does_all : List TypedStmt → Do
  does_all ss = all_do (map does ss)
