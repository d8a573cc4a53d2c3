use Rattle.token_grammar.proofs.Chain.{next, past, stuck, last, last_stuck, raised}
use Rattle.apex_parse_unit.proofs.members.accessors.Goals as goal

pub returns-in_err-behind-3 : goal.returns-in_err-behind-3
returns-in_err-behind-3 c = raised c.from_residual-in_err-behind-3.ensures (next c.in_ok-behind.ensures.told (past c.in_ok-behind-2.ensures (stuck c.in_err-behind-3.ensures)))

pub returns-in_err-behind-4 : goal.returns-in_err-behind-4
returns-in_err-behind-4 c = raised c.from_residual-in_err-behind-4.ensures (next c.in_ok-behind.ensures.told (past c.in_ok-behind-2.ensures (past c.in_ok-behind-3.ensures (stuck c.in_err-behind-4.ensures))))

pub returns-in_err-behind-5 : goal.returns-in_err-behind-5
returns-in_err-behind-5 c = raised c.from_residual-in_err-behind-5.ensures (next c.in_ok-behind.ensures.told (past c.in_ok-behind-2.ensures (past c.in_ok-behind-3.ensures (past c.in_ok-behind-4.ensures (stuck c.in_err-behind-5.ensures)))))

pub returns-in_err-end : goal.returns-in_err-end
returns-in_err-end c = raised c.from_residual-in_err-end.ensures (next c.in_ok-behind.ensures.told (past c.in_ok-behind-2.ensures (past c.in_ok-behind-3.ensures (past c.in_ok-behind-4.ensures (past c.in_ok-behind-5.ensures (last_stuck c.in_err-end.ensures))))))

pub returns : goal.returns
returns c = next c.in_ok-behind.ensures.told (past c.in_ok-behind-2.ensures (past c.in_ok-behind-3.ensures (past c.in_ok-behind-4.ensures (past c.in_ok-behind-5.ensures (last c.in_ok-end.ensures)))))
