use Rattle.token_grammar.proofs.Chain.{next, halt, past, here, raised, ended}
use Rattle.apex_parse_stmt.proofs.nest.if_stmt.Goals as goal

pub returns-in_err-cond : goal.returns-in_err-cond
returns-in_err-cond g c = raised c.from_residual-in_err-cond.ensures (here (past c.in_ok-behind.ensures (halt c.in_err-cond.ensures)))

pub returns-in_err-ways : goal.returns-in_err-ways
returns-in_err-ways g c = raised c.from_residual-in_err-ways.ensures (here (past c.in_ok-behind.ensures (next c.in_ok-cond.ensures (halt c.in_err-ways.ensures))))

pub returns : goal.returns
returns g c = here (past c.in_ok-behind.ensures (next c.in_ok-cond.ensures (next c.in_ok-ways.ensures (ended c.span_of-span.ensures c.boxed.ensures))))
