use Rattle.token_grammar.proofs.Chain.{next, halt, raised}
use Rattle.apex_parse_unit.proofs.classes.named_head.Goals as goal

pub returns-in_err-interfaces : goal.returns-in_err-interfaces
returns-in_err-interfaces c = raised c.from_residual-in_err-interfaces.ensures (next c.in_ok-name.ensures (next c.in_ok-parent.ensures (halt c.in_err-interfaces.ensures)))
