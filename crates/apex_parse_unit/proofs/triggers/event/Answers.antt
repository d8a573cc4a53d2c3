use Rattle.token_grammar.proofs.Chain.{next, halt, here, raised}
use Rattle.apex_parse_unit.proofs.triggers.event.Goals as goal

pub returns-in_err-op : goal.returns-in_err-op
returns-in_err-op c = raised c.from_residual-in_err-op.ensures (here (next c.in_ok-after.ensures (halt c.in_err-op.ensures)))
