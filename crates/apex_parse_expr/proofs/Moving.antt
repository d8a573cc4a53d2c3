-- Types and expressions take tokens.
use Rattle.std.specs.Prelude.{ℕ, zero, suc}
use Rattle.std.proofs.Common.{inl, inr}
use Rattle.apex_lexer.specs.declared.token.Sign.{Sign}
use Rattle.apex_lexer.specs.declared.token.Sign.TheVariants.{OpenParen, OpenBracket}
use Rattle.apex_syntax.specs.declared.expr.Expr.{Expr}
use Rattle.apex_syntax.specs.declared.query.QueryTree.{QueryTree}
use Rattle.token_grammar.specs.Notation.{Rule}
use Rattle.token_grammar.specs.Tokens.{open_sign, refuse_here}
use Rattle.token_grammar.specs.declared.fault.ParseWord.TheVariants.{TooDeep}
use Rattle.token_grammar.proofs.Moves.{Moves}
use Rattle.apex_parse_expr.specs.declared.part.Part.{Part}
use Rattle.apex_parse_leaf.specs.Leaves.{open_prefix}
use Rattle.apex_parse_expr.specs.Exprs.{expr, unary, unary_with, expr_with, deeper_query, part}

pub open_moves : (s : Sign) (room : ℕ) → Moves (open_sign s room)
open_moves s zero = inr (λ i. inl tt)
open_moves s (suc room) = inl tt

pub part_moves : (room : ℕ) (e : Rule Expr) → Moves (part room e)
part_moves room e = (inl tt, inr (λ i. inl (open_moves OpenBracket room)))

prefix_moves : (room : ℕ) → Moves (open_prefix room)
prefix_moves zero = inr (λ i. inl tt)
prefix_moves (suc room) = tt

unary_with_moves : (room : ℕ) (e : Rule Expr) (q : Rule QueryTree) (u : Rule Part) → Moves (unary_with room e q u)
unary_with_moves room e q u = (
  inr (λ i. inl (prefix_moves room)),
  (
    inr (λ i. inl (open_moves OpenParen room)),
    inl (inr (λ i. inl (inr (λ j. inl tt), (inr (λ j. inl (open_moves OpenParen room)), (inr (λ j. inl (open_moves OpenBracket room)), (inr (λ j. inl tt), tt)))))),
  ),
)

expr_with_moves : (room : ℕ) (e : Rule Expr) (u : Rule Part) → Moves u → Moves (expr_with room e u)
expr_with_moves room e u m =
    inr (λ i. inl (inr (λ j. inl (inr (λ k. inl (inr (λ l. inl (inr (λ n. inl (inr (λ o. inl (inr (λ p. inl m)))))))))))))

pub expr_moves : (room : ℕ) → Moves (expr room)
unfolding expr
expr_moves zero = expr_with_moves zero (refuse_here TooDeep) (unary_with zero (refuse_here TooDeep) (refuse_here TooDeep) (refuse_here TooDeep)) (unary_with_moves zero (refuse_here TooDeep) (refuse_here TooDeep) (refuse_here TooDeep))
expr_moves (suc room) = expr_with_moves (suc room) (expr room) (unary_with (suc room) (expr room) (deeper_query (suc room)) (unary room)) (unary_with_moves (suc room) (expr room) (deeper_query (suc room)) (unary room))
