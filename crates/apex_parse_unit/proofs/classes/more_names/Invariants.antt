use Rattle.std.proofs.Common.{◌-◌, length}
use Rattle.apex_lexer.specs.declared.token.Sign.TheVariants.{Comma}
use Rattle.token_grammar.specs.Tokens.{next_sign}
use Rattle.token_grammar.proofs.Chain.{Listed}
use Rattle.apex_parse_unit.specs.Classes as grammar
use Rattle.apex_parse_unit.proofs.classes.more_names.Given as goal

abbrev pub invariant-names : goal.invariant-names
invariant-names l = Listed l.tokens (next_sign Comma) grammar.comma_name l.at l.fn.first l.names l.end

abbrev pub decreases-names : goal.decreases-names
decreases-names l = length l.tokens - l.end
