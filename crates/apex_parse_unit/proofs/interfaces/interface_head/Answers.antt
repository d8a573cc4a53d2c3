use Rattle.token_grammar.proofs.Chain.{next, halt, past, gives, raised}
use Rattle.apex_parse_unit.proofs.interfaces.interface_head.Goals as goal

pub returns-in_err-name : goal.returns-in_err-name
returns-in_err-name c = raised c.from_residual-in_err-name.ensures (next c.in_ok-modifier.ensures (past c.in_ok-behind.ensures (halt c.in_err-name.ensures)))

pub returns : goal.returns
returns c = next c.in_ok-modifier.ensures (past c.in_ok-behind.ensures (next c.in_ok-name.ensures gives))
