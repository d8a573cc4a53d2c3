use Rattle.std.proofs.Common.{◌-◌, length}
use Rattle.apex_lexer.specs.declared.token.Sign.TheVariants.{Comma}
use Rattle.token_grammar.specs.Tokens.{next_sign}
use Rattle.token_grammar.proofs.Chain.{Listed}
use Rattle.soql_parse.specs.Queries as grammar
use Rattle.soql_parse.proofs.order.more_keys.Given as goal

abbrev pub invariant-keys : goal.invariant-keys
invariant-keys l = Listed l.tokens (next_sign Comma) grammar.comma_key l.at l.fn.first l.keys l.end

abbrev pub decreases-keys : goal.decreases-keys
decreases-keys l = length l.tokens - l.end
