-- Whether statements end surely (docs/language.md, "Sure endings").
use Rattle.std.specs.Prelude.{ℕ, ◌&&◌, ◌||◌, Bool, true, false, cond, List, [], ◌∷◌, Option, None, Some}
use Rattle.apex_syntax.specs.declared.stmt.Body.{Body}
use Rattle.apex_syntax.specs.declared.stmt.Catch.{Catch}
use Rattle.apex_syntax.specs.declared.stmt.Stmt.{Stmt}
use Rattle.apex_syntax.specs.declared.stmt.Stmt.TheOpen.{Stmt-F, Body-F, Catch-F}
use Rattle.apex_syntax.specs.declared.stmt.Stmt.TheFolds.{fold-Stmt, fold-Body, fold-Catch}

-- whether it is a `;`, and whether it ends surely
pub record Ending : Type 0 where
  pub empty : Bool
  pub ends : Bool

-- what the last of these that is no `;` does, where there is one
abbrev pub last_ends : Bool → List Ending → Bool
last_ends sure [] = sure
last_ends sure (e ∷ es) = last_ends (cond e.empty sure e.ends) es

abbrev pub all_end : List Bool → Bool
all_end [] = true
all_end (b ∷ bs) = b && all_end bs

abbrev pub other_ends : Option Ending → Bool
other_ends (Some e) = e.ends
other_ends None = false

abbrev pub finally_ends : Option Bool → Bool
finally_ends (Some b) = b
finally_ends None = false

abbrev pub is_empty : Stmt-F Ending Bool Bool → Bool
is_empty (Stmt-F.Empty sp) = true
is_empty _ = false

abbrev pub stmt_ends : Stmt-F Ending Bool Bool → Bool
stmt_ends (Stmt-F.Block b) = b
stmt_ends (Stmt-F.If sp c first other) = first.ends && other_ends other
stmt_ends (Stmt-F.Try sp b cs f) = b && all_end cs || finally_ends f
stmt_ends (Stmt-F.Return sp x) = true
stmt_ends (Stmt-F.Throw sp x) = true
stmt_ends _ = false

abbrev pub stmt_step : Stmt-F Ending Bool Bool → Ending
stmt_step t = record { empty = is_empty t; ends = stmt_ends t }

abbrev pub body_step : Body-F Ending Bool Bool → Bool
body_step b = last_ends false b.stmts

abbrev pub catch_step : Catch-F Ending Bool Bool → Bool
catch_step c = c.body

abbrev pub ending : Stmt → Ending
ending = fold-Stmt Ending Bool Bool stmt_step body_step catch_step

abbrev pub body_ends : Body → Bool
body_ends = fold-Body Ending Bool Bool stmt_step body_step catch_step

abbrev pub catch_ends : Catch → Bool
catch_ends = fold-Catch Ending Bool Bool stmt_step body_step catch_step
