use Rattle.token_grammar.proofs.Chain.{next, halt, past, stuck, gives, raised}
use Rattle.apex_parse_stmt.proofs.tries.catch_head.Goals as goal

pub returns-in_err-behind-2 : goal.returns-in_err-behind-2
returns-in_err-behind-2 c = raised c.from_residual-in_err-behind-2.ensures (past c.in_ok-behind.ensures (halt c.in_err-behind-2.ensures.told))

pub returns-in_err-caught : goal.returns-in_err-caught
returns-in_err-caught c = raised c.from_residual-in_err-caught.ensures (past c.in_ok-behind.ensures (next c.in_ok-behind-2.ensures.told (halt c.in_err-caught.ensures)))

pub returns-in_err-end : goal.returns-in_err-end
returns-in_err-end c = raised c.from_residual-in_err-end.ensures (past c.in_ok-behind.ensures (next c.in_ok-behind-2.ensures.told (next c.in_ok-caught.ensures (stuck c.in_err-end.ensures))))

pub returns : goal.returns
returns c = past c.in_ok-behind.ensures (next c.in_ok-behind-2.ensures.told (next c.in_ok-caught.ensures (past c.in_ok-end.ensures gives)))
