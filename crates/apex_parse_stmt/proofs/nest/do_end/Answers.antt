use Rattle.token_grammar.proofs.Chain.{next, halt, past, stuck, gives, raised}
use Rattle.apex_parse_stmt.proofs.nest.do_end.Goals as goal

pub returns-in_err-cond : goal.returns-in_err-cond
returns-in_err-cond c = raised c.from_residual-in_err-cond.ensures (past c.in_ok-behind.ensures (halt c.in_err-cond.ensures))

pub returns-in_err-end : goal.returns-in_err-end
returns-in_err-end c = raised c.from_residual-in_err-end.ensures (past c.in_ok-behind.ensures (next c.in_ok-cond.ensures (stuck c.in_err-end.ensures)))

pub returns : goal.returns
returns c = past c.in_ok-behind.ensures (next c.in_ok-cond.ensures (past c.in_ok-end.ensures gives))
