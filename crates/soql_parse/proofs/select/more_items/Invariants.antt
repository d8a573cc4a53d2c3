use Rattle.std.proofs.Common.{◌-◌, length}
use Rattle.apex_lexer.specs.declared.token.Sign.TheVariants.{Comma}
use Rattle.token_grammar.specs.Tokens.{next_sign}
use Rattle.token_grammar.proofs.Chain.{Listed}
use Rattle.soql_parse.specs.Queries as grammar
use Rattle.soql_parse.proofs.select.more_items.Given as goal

abbrev pub invariant-items : goal.invariant-items
invariant-items g l = Listed l.tokens (next_sign Comma) (grammar.comma_item (g.K.BindRule.rule l.binds.how) l.room) l.at l.fn.first l.items l.end

abbrev pub decreases-items : goal.decreases-items
decreases-items g l = length l.tokens - l.end
