use Rattle.std.proofs.Common.{◌-◌, length}
use Rattle.apex_lexer.specs.declared.token.Sign.TheVariants.{Comma}
use Rattle.token_grammar.specs.Tokens.{next_sign}
use Rattle.token_grammar.proofs.Chain.{Listed}
use Rattle.apex_parse_expr.specs.Exprs as grammar
use Rattle.apex_parse_expr.proofs.news.more_fields.Given as goal

abbrev pub invariant-fields : goal.invariant-fields
invariant-fields g l = Listed l.tokens (next_sign Comma) (grammar.comma_field (grammar.deeper_expr l.room)) l.at l.fn.first l.fields l.end

abbrev pub decreases-fields : goal.decreases-fields
decreases-fields g l = length l.tokens - l.end
