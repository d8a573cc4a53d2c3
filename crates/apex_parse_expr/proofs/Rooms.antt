-- The rules of expressions, where so many forms may be open.
use Rattle.std.specs.Prelude.{◌≡◌, ℕ, zero, suc, min, leb, Bool, true, false, List, Result}
use Rattle.std.proofs.Common.{refl, sym, subst, arith, ◌∙◌}
use Rattle.std.proofs.Math.Nat.{min-zero, min-eq_left, min-eq_right}
use Rattle.std.proofs.lemmas.Bool.{leb-true, leb-false}
use Rattle.apex_lexer.specs.declared.token.Token.{Token}
use Rattle.apex_syntax.specs.declared.expr.Expr.{Expr}
use Rattle.apex_syntax.specs.declared.query.BindTree.{BindTree}
use Rattle.apex_syntax.specs.declared.query.QueryTree.{QueryTree}
use Rattle.token_grammar.specs.declared.fault.Stop.{Stop}
use Rattle.token_grammar.specs.Readings.{Told}
use Rattle.soql_parse.specs.Queries.{query}
use Rattle.apex_parse_expr.specs.declared.part.Part.{Part}
use Rattle.apex_parse_expr.specs.Exprs.{expr, expr_with, unary, unary_with, binds, bind_with, pick, deeper_expr, deeper_unary, deeper_query}

pub expr_by : (room : ℕ) {tokens : List Token} {at : ℕ} {o : Result (Expr × ℕ) Stop} → Told tokens (expr_with room (deeper_expr room) (unary room)) at o → Told tokens (expr room) at o
unfolding expr
expr_by zero h = h
expr_by (suc room) h = h

pub unary_by : (room : ℕ) {tokens : List Token} {at : ℕ} {o : Result (Part × ℕ) Stop} → Told tokens (unary_with room (deeper_expr room) (deeper_query room) (deeper_unary room)) at o → Told tokens (unary room) at o
unfolding unary
unary_by zero h = h
unary_by (suc room) h = h

pub query_by : {tokens : List Token} {room most at : ℕ} {o : Result (QueryTree × ℕ) Stop} → room ≡ suc most → Told tokens (query (binds most) most) at o → Told tokens (deeper_query room) at o
query_by {tokens = tokens} {at = at} {o = o} e h = subst (λ r. Told tokens (deeper_query r) at o) (sym e) h

abbrev At : List Token → ℕ → Result (BindTree × ℕ) Stop → ℕ → Type 0
At tokens at o room = Told tokens (bind_with room (deeper_expr room)) at o

picked : (tokens : List Token) (at : ℕ) (o : Result (BindTree × ℕ) Stop) (b : Bool) (room inside : ℕ) → leb (suc room) inside ≡ b → At tokens at o (min inside (suc room))
    → (At tokens at o (min inside room) → Told tokens (binds room inside) at o) → Told tokens (pick b (bind_with (suc room) (expr room)) (binds room inside)) at o
picked tokens at o true room inside e h go = subst (At tokens at o) (min-eq_right (leb-true (suc room) inside e)) h
picked tokens at o false room inside e h go =
    let under = leb-false (suc room) inside e in
    go (subst (At tokens at o) (min-eq_left {n = inside} {m = suc room} (omega arith) ∙ sym (min-eq_left {n = inside} {m = room} (omega arith))) h)

-- a bind where `inside` forms may be open, and never more than `most`
binds_by : (most inside : ℕ) {tokens : List Token} {at : ℕ} {o : Result (BindTree × ℕ) Stop} → Told tokens (bind_with (min inside most) (deeper_expr (min inside most))) at o → Told tokens (binds most inside) at o
unfolding binds
binds_by zero inside {tokens = tokens} {at = at} {o = o} h = subst (At tokens at o) (min-zero inside) h
binds_by (suc most) inside {tokens = tokens} {at = at} {o = o} h =
    picked tokens at o (leb (suc most) inside) most inside refl h (λ k. binds_by most inside {tokens = tokens} {at = at} {o = o} k)

pub bind_at : (most inside room : ℕ) {tokens : List Token} {at : ℕ} {o : Result (BindTree × ℕ) Stop} → room ≡ min inside most → Told tokens (bind_with room (deeper_expr room)) at o → Told tokens (binds most inside) at o
bind_at most inside room {tokens = tokens} {at = at} {o = o} e h = binds_by most inside {tokens = tokens} {at = at} {o = o} (subst (At tokens at o) e h)
