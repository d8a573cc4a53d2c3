use Rattle.token_grammar.proofs.Chain.{next, halt, past, stuck, raised}
use Rattle.apex_parse_stmt.proofs.loops.for_rest.Goals as goal

pub returns-in_err-cond : goal.returns-in_err-cond
returns-in_err-cond c = raised c.from_residual-in_err-cond.ensures (past c.in_ok-behind.ensures (halt c.in_err-cond.ensures))

pub returns-in_err-behind-2 : goal.returns-in_err-behind-2
returns-in_err-behind-2 c = raised c.from_residual-in_err-behind-2.ensures (past c.in_ok-behind.ensures (next c.in_ok-cond.ensures (stuck c.in_err-behind-2.ensures)))

pub returns-in_err-step : goal.returns-in_err-step
returns-in_err-step c = raised c.from_residual-in_err-step.ensures (past c.in_ok-behind.ensures (next c.in_ok-cond.ensures (past c.in_ok-behind-2.ensures (halt c.in_err-step.ensures))))

pub returns : goal.returns
returns c = past c.in_ok-behind.ensures (next c.in_ok-cond.ensures (past c.in_ok-behind-2.ensures (next c.in_ok-step.ensures (c.boxed.ensures c.args.tokens.now))))
