use Rattle.std.proofs.Common.{◌-◌, length}
use Rattle.apex_lexer.specs.declared.token.Sign.TheVariants.{Comma}
use Rattle.token_grammar.specs.Tokens.{next_sign}
use Rattle.token_grammar.proofs.Chain.{Listed}
use Rattle.soql_parse.specs.Queries as grammar
use Rattle.soql_parse.proofs.value.more_values.Given as goal

abbrev pub invariant-values : goal.invariant-values
invariant-values g l = Listed l.tokens (next_sign Comma) (grammar.comma_value (g.K.BindRule.rule l.binds.how) l.room) l.at l.fn.first l.values l.end

abbrev pub decreases-values : goal.decreases-values
decreases-values g l = length l.tokens - l.end
