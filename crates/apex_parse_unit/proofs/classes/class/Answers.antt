use Rattle.token_grammar.proofs.Chain.{next, halt, here, raised, ended}
use Rattle.apex_parse_unit.proofs.classes.class.Goals as goal

pub returns-in_err-members : goal.returns-in_err-members
returns-in_err-members c = raised c.from_residual-in_err-members.ensures (here (next c.in_ok-head.ensures (halt c.in_err-members.ensures)))

pub returns : goal.returns
returns c = here (next c.in_ok-head.ensures (next c.in_ok-members.ensures (ended c.span_of-span.ensures c.made.ensures)))
