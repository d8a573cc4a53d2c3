use Rattle.token_grammar.proofs.Chain.{next, halt, past, stuck, gives, raised}
use Rattle.apex_parse_unit.proofs.triggers.trigger_head.Goals as goal

pub returns-in_err-behind-2 : goal.returns-in_err-behind-2
returns-in_err-behind-2 c = raised c.from_residual-in_err-behind-2.ensures (past c.in_ok-behind.ensures (next c.in_ok-word.ensures (stuck c.in_err-behind-2.ensures)))

pub returns-in_err-object : goal.returns-in_err-object
returns-in_err-object c = raised c.from_residual-in_err-object.ensures (past c.in_ok-behind.ensures (next c.in_ok-word.ensures (past c.in_ok-behind-2.ensures (halt c.in_err-object.ensures))))

pub returns : goal.returns
returns c = past c.in_ok-behind.ensures (next c.in_ok-word.ensures (past c.in_ok-behind-2.ensures (next c.in_ok-object.ensures gives)))
