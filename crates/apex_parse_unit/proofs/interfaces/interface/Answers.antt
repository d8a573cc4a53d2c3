use Rattle.token_grammar.proofs.Chain.{next, halt, here, raised, ended}
use Rattle.apex_parse_unit.proofs.interfaces.interface.Goals as goal

pub returns-in_err-methods : goal.returns-in_err-methods
returns-in_err-methods c = raised c.from_residual-in_err-methods.ensures (here (next c.in_ok-head.ensures (halt c.in_err-methods.ensures)))

pub returns : goal.returns
returns c = here (next c.in_ok-head.ensures (next c.in_ok-methods.ensures (ended c.span_of-span.ensures c.made.ensures)))
