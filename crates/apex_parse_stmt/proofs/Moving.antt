-- Statements take tokens.
use Rattle.std.specs.Prelude.{ℕ, zero, suc}
use Rattle.std.proofs.Common.{inl, inr}
use Rattle.apex_lexer.specs.declared.token.Sign.TheVariants.{OpenBrace}
use Rattle.apex_syntax.specs.declared.stmt.Stmt.{Stmt}
use Rattle.token_grammar.specs.Notation.{Rule}
use Rattle.token_grammar.specs.Tokens.{refuse_here}
use Rattle.token_grammar.specs.declared.fault.ParseWord.TheVariants.{TooDeep}
use Rattle.token_grammar.proofs.Moves.{Moves}
use Rattle.apex_parse_leaf.proofs.TypeMoves.{type_moves}
use Rattle.apex_parse_expr.proofs.Moving.{open_moves, expr_moves}
use Rattle.apex_parse_stmt.specs.Stmts.{stmt, stmt_with, deeper_stmt, nested, jumps, other}

nested_moves : (room : ℕ) (s : Rule Stmt) → Moves (nested room s)
nested_moves room s = (inr (λ i. inl tt), (inr (λ i. inl tt), (inr (λ i. inl tt), (inr (λ i. inl tt), inr (λ i. inl tt)))))

jumps_moves : (room : ℕ) → Moves (jumps room)
jumps_moves room = (inr (λ i. inl tt), (inr (λ i. inl tt), (inr (λ i. inl tt), inr (λ i. inl tt))))

other_moves : (room : ℕ) → Moves (other room)
other_moves room = (inr (λ i. inl tt), (inr (λ i. inl tt), (inr (λ i. inl (type_moves room)), inr (λ i. inl (expr_moves room)))))

with_moves : (room : ℕ) (s : Rule Stmt) → Moves (stmt_with room s)
with_moves room s =
    (inl (inr (λ i. inl (open_moves OpenBrace room))), (inr (λ i. inl tt), (nested_moves room s, (jumps_moves room, (inr (λ i. inl tt), other_moves room)))))

pub stmt_moves : (room : ℕ) → Moves (stmt room)
unfolding stmt
stmt_moves zero = with_moves zero (refuse_here TooDeep)
stmt_moves (suc room) = with_moves (suc room) (stmt room)

pub deeper_moves : (room : ℕ) → Moves (deeper_stmt room)
deeper_moves zero = inr (λ i. tt)
deeper_moves (suc room) = stmt_moves room
