use Rattle.std.proofs.Common.{◌-◌, length}
use Rattle.apex_lexer.specs.declared.token.Sign.TheVariants.{Comma}
use Rattle.token_grammar.specs.Tokens.{next_sign}
use Rattle.token_grammar.proofs.Chain.{Listed}
use Rattle.apex_parse_expr.specs.Exprs as grammar
use Rattle.apex_parse_expr.proofs.args.more_exprs.Given as goal

abbrev pub invariant-exprs : goal.invariant-exprs
invariant-exprs g l = Listed l.tokens (next_sign Comma) (grammar.comma_expr (grammar.deeper_expr l.room)) l.at l.fn.first l.exprs l.end

abbrev pub decreases-exprs : goal.decreases-exprs
decreases-exprs g l = length l.tokens - l.end
