-- The walk over constructors (docs/language.md, "Bodies").
use Rattle.std.specs.Prelude.{ℕ, Bool, true, false, cond, List, [], ◌∷◌, map, drop, slice_get, Option, None, Some}
use Rattle.fault_words.specs.declared.fault.FaultWord.TheVariants.{WrongArguments}
use Rattle.apex_syntax.specs.declared.stmt.Body.{Body}
use Rattle.apex_syntax.specs.declared.stmt.Catch.{Catch}
use Rattle.apex_syntax.specs.declared.stmt.Stmt.{Stmt}
use Rattle.apex_syntax.specs.declared.stmt.Stmt.TheOpen.{Stmt-F}
use Rattle.apex_syntax.specs.declared.stmt.Stmt.TheViews.{out-Stmt, out-Body}
use Rattle.class_tables.specs.declared.head.Parent.{Parent}
use Rattle.class_tables.specs.declared.head.Parent.TheVariants as P
use Rattle.class_tables.specs.Lines.{parent_at}
use Rattle.typed_calls.specs.declared.maker.Maker.{Maker}
use Rattle.typed_calls.specs.declared.maker.Maker.TheVariants.{Instance}
use Rattle.typed_calls.specs.Makers.{constructor_of}
use Rattle.name_meanings.specs.Settings.{Around}
use Rattle.statement_walk.specs.Scenes.{Locals, Scene}
use Rattle.statement_walk.specs.Simples.{called_own, called_parent}
use Rattle.statement_walk.specs.Statements.{statement, stmts_from}
use Rattle.type_names.specs.Walks.{Walk, Gives, wrong, onward}
use Rattle.typed_program.specs.declared.unit.ImpliedCall.{ImpliedCall}
use Rattle.typed_program.specs.declared.unit.ParentCall.{ParentCall}
use Rattle.typed_program.specs.declared.unit.ParentCall.TheVariants as C
use Rattle.typed_program.specs.declared.unit.TypedConstructor.{TypedConstructor}

-- ---- what is called without being written

abbrev pub implied : Maker → ℕ → Walk (Option ImpliedCall)
implied (Instance class constructor) at = Gives (Some (record { class = class; constructor = constructor }))
implied maker at = wrong WrongArguments at

abbrev pub call_of_parent : Around → Parent → ℕ → Walk (Option ImpliedCall)
call_of_parent a (P.Class parent) at = onward (constructor_of a parent at 0) (λ maker. implied maker at)
call_of_parent a _ at = Gives None

-- the constructor of its parent without parameters that a class calls, where it extends a class
abbrev pub implied_call : Around → ℕ → ℕ → Walk (Option ImpliedCall)
implied_call a class at = call_of_parent a (parent_at a.heads class) at

abbrev pub call_or : Option ImpliedCall → ParentCall
call_or (Some call) = C.Implied call
call_or None = C.Nothing

-- ---- what is written

abbrev pub is_semicolon : Stmt-F Stmt Body Catch → Bool
is_semicolon (Stmt-F.Empty sp) = true
is_semicolon _ = false

abbrev pub behind_semicolons : List Stmt → List Stmt
behind_semicolons [] = []
behind_semicolons (t ∷ ts) = cond (is_semicolon (out-Stmt t)) (behind_semicolons ts) (t ∷ ts)

abbrev pub calls : Stmt-F Stmt Body Catch → Bool
calls (Stmt-F.This sp args) = true
calls (Stmt-F.Super sp args) = true
calls _ = false

-- the statements behind the call: all, or those behind the one that calls, where it is the first one that is no `;`
abbrev pub left_by : Option Stmt → List Stmt → List Stmt → List Stmt
left_by (Some first) rest all = cond (calls (out-Stmt first)) rest all
left_by None rest all = all

abbrev pub left_of : List Stmt → List Stmt → List Stmt
left_of front all = left_by (slice_get front 0) (drop 1 front) all

abbrev pub unwritten : Scene → ℕ → ℕ → Walk ParentCall
unwritten s class at = onward (implied_call s.around class at) (λ call. Gives (call_or call))

module _ (s : Scene) (class : ℕ) (locals : Locals) (at : ℕ) where
  -- the first statement that is no `;` may call a constructor
  abbrev pub call_by : Stmt-F Stmt Body Catch → Walk ParentCall
  call_by (Stmt-F.This sp args) = called_own s locals sp.from args
  call_by (Stmt-F.Super sp args) = called_parent s locals sp.from args
  call_by _ = unwritten s class at

  abbrev pub call_of : Option Stmt → Walk ParentCall
  call_of (Some first) = call_by (out-Stmt first)
  call_of None = unwritten s class at

  -- the call comes before the other statements
  abbrev pub constructor_with : List Stmt → Walk TypedConstructor
  constructor_with stmts =
      onward (call_of (slice_get (behind_semicolons stmts) 0)) (λ parent.
      onward (stmts_from (map (statement s) (left_of (behind_semicolons stmts) stmts)) false [] locals) (λ r.
      Gives (record { parent = parent; stmts = r.0 })))

-- a constructor of a class, whose name stands at this byte, with the locals that its parameters are
abbrev pub constructor_body : Scene → ℕ → Locals → Body → ℕ → Walk TypedConstructor
constructor_body s class locals b at = constructor_with s class locals at (out-Body b).stmts
