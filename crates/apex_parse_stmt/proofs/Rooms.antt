-- The rules of statements, where so many forms may be open.
use Rattle.std.specs.Prelude.{◌≡◌, ℕ, zero, suc, List, [], ◌∷◌, Option, Result}
use Rattle.std.proofs.Common.{refl, subst}
use Rattle.apex_lexer.specs.declared.token.Token.{Token}
use Rattle.apex_lexer.specs.declared.token.Keyword.TheVariants.{Finally}
use Rattle.apex_syntax.specs.declared.stmt.Body.{Body}
use Rattle.apex_syntax.specs.declared.stmt.Catch.{Catch}
use Rattle.apex_syntax.specs.declared.stmt.Stmt.{Stmt}
use Rattle.token_grammar.specs.declared.fault.Stop.{Stop}
use Rattle.token_grammar.specs.Notation.{Rule}
use Rattle.token_grammar.specs.Readings.{Told}
use Rattle.token_grammar.specs.Tokens.{optional, next_word}
use Rattle.apex_parse_stmt.specs.Stmts.{stmt, stmt_with, deeper_stmt, unbraced, needed, last_part, finally_block}

pub stmt_by : (room : ℕ) {tokens : List Token} {at : ℕ} {o : Result (Stmt × ℕ) Stop} → Told tokens (stmt_with room (deeper_stmt room)) at o → Told tokens (stmt room) at o
unfolding stmt
stmt_by zero h = h
stmt_by (suc room) h = h

pub unbraced_by : (room : ℕ) {tokens : List Token} {s : Rule Stmt} {at : ℕ} {o : Result (Stmt × ℕ) Stop} → (room ≡ 0 → ⊥) → Told tokens s at o → Told tokens (unbraced room s) at o
unbraced_by zero n h = absurd (n refl)
unbraced_by (suc room) n h = h

abbrev HasOne : List Catch → Type 0
HasOne [] = ⊥
HasOne (c ∷ cs) = Unit {0}

pub last_none : (cs : List Catch) (room : ℕ) (s : Rule Stmt) {tokens : List Token} {at : ℕ} {o : Result (Option Body × ℕ) Stop} → cs ≡ [] → Told tokens (needed room s) at o → Told tokens (last_part room s cs) at o
last_none [] room s e h = h
last_none (c ∷ cs) room s e h = absurd (subst HasOne e tt)

pub last_some : (cs : List Catch) (room : ℕ) (s : Rule Stmt) {tokens : List Token} {at : ℕ} {o : Result (Option Body × ℕ) Stop} → (cs ≡ [] → ⊥) → Told tokens (optional (next_word Finally) (finally_block room s)) at o → Told tokens (last_part room s cs) at o
last_some [] room s n h = absurd (n refl)
last_some (c ∷ cs) room s n h = h
