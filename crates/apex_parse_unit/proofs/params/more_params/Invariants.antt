use Rattle.std.proofs.Common.{◌-◌, length}
use Rattle.apex_lexer.specs.declared.token.Sign.TheVariants.{Comma}
use Rattle.token_grammar.specs.Tokens.{next_sign}
use Rattle.token_grammar.proofs.Chain.{Listed}
use Rattle.apex_parse_unit.specs.Members as grammar
use Rattle.apex_parse_unit.proofs.params.more_params.Given as goal

abbrev pub invariant-params : goal.invariant-params
invariant-params l = Listed l.tokens (next_sign Comma) (grammar.comma_param l.room) l.at l.fn.first l.params l.end

abbrev pub decreases-params : goal.decreases-params
decreases-params l = length l.tokens - l.end
