use Rattle.token_grammar.proofs.Chain.{next, halt, here, raised, ended}
use Rattle.apex_parse_unit.proofs.triggers.trigger.Goals as goal

pub returns-in_err-events : goal.returns-in_err-events
returns-in_err-events c = raised c.from_residual-in_err-events.ensures (here (next c.in_ok-head.ensures (halt c.in_err-events.ensures)))

pub returns-in_err-body : goal.returns-in_err-body
returns-in_err-body c = raised c.from_residual-in_err-body.ensures (here (next c.in_ok-head.ensures (next c.in_ok-events.ensures (halt c.in_err-body.ensures))))

pub returns : goal.returns
returns c = here (next c.in_ok-head.ensures (next c.in_ok-events.ensures (next c.in_ok-body.ensures (ended c.span_of-span.ensures c.made.ensures))))
