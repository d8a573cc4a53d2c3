use Rattle.std.proofs.Common.{◌-◌, length}
use Rattle.apex_lexer.specs.declared.token.Sign.TheVariants.{Comma}
use Rattle.token_grammar.specs.Tokens.{next_sign}
use Rattle.token_grammar.proofs.Chain.{Listed}
use Rattle.apex_parse_unit.specs.Triggers as grammar
use Rattle.apex_parse_unit.proofs.triggers.more_events.Given as goal

abbrev pub invariant-events : goal.invariant-events
invariant-events l = Listed l.tokens (next_sign Comma) grammar.comma_event l.at l.fn.first l.events l.end

abbrev pub decreases-events : goal.decreases-events
decreases-events l = length l.tokens - l.end
