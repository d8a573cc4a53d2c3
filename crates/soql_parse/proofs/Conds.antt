-- Conditions in forms that are opened.
use Rattle.std.specs.Prelude.{◌≡◌, ℕ, zero, suc, List, Result}
use Rattle.std.proofs.Common.{sym, subst}
use Rattle.apex_lexer.specs.declared.token.Token.{Token}
use Rattle.apex_syntax.specs.declared.query.BindTree.{BindTree}
use Rattle.apex_syntax.specs.declared.query.CondTree.{CondTree}
use Rattle.token_grammar.specs.declared.fault.Stop.{Stop}
use Rattle.token_grammar.specs.Notation.{Rule}
use Rattle.token_grammar.specs.Readings.{Told}
use Rattle.soql_parse.specs.Queries.{one, one_with, deeper_one, conds_of}

one_is : (tokens : List Token) (bind : ℕ → Rule BindTree) (room at : ℕ) (o : Result (CondTree × ℕ) Stop) → Told tokens (one_with bind room (deeper_one bind room)) at o → Told tokens (one bind room) at o
one_is tokens bind zero at o h = h
one_is tokens bind (suc room) at o h = h

pub one_by : (bind : ℕ → Rule BindTree) (room : ℕ) {tokens : List Token} {at : ℕ} {o : Result (CondTree × ℕ) Stop} → Told tokens (one_with bind room (deeper_one bind room)) at o → Told tokens (one bind room) at o
one_by bind room {tokens = tokens} {at = at} {o = o} h = one_is tokens bind room at o h

pub deeper_conds : (bind : ℕ → Rule BindTree) {tokens : List Token} {room inside at : ℕ} {o : Result (CondTree × ℕ) Stop} → room ≡ suc inside → Told tokens (conds_of (one bind inside)) at o → Told tokens (conds_of (deeper_one bind room)) at o
deeper_conds bind {tokens = tokens} {at = at} {o = o} e h = subst (λ r. Told tokens (conds_of (deeper_one bind r)) at o) (sym e) h

pub deeper_cond : (bind : ℕ → Rule BindTree) {tokens : List Token} {room inside at : ℕ} {o : Result (CondTree × ℕ) Stop} → room ≡ suc inside → Told tokens (one bind inside) at o → Told tokens (deeper_one bind room) at o
deeper_cond bind {tokens = tokens} {at = at} {o = o} e h = subst (λ r. Told tokens (deeper_one bind r) at o) (sym e) h
