use Rattle.std.proofs.Common.{◌-◌, length}
use Rattle.apex_lexer.specs.declared.token.Sign.TheVariants.{Comma}
use Rattle.token_grammar.specs.Tokens.{next_sign}
use Rattle.token_grammar.proofs.Chain.{Listed}
use Rattle.apex_parse_expr.specs.Exprs as grammar
use Rattle.apex_parse_expr.proofs.news.more_items.Given as goal

abbrev pub invariant-items : goal.invariant-items
invariant-items g l = Listed l.tokens (next_sign Comma) (grammar.comma_item (grammar.deeper_expr l.room)) l.at l.fn.first l.items l.end

abbrev pub decreases-items : goal.decreases-items
decreases-items g l = length l.tokens - l.end
