use Rattle.token_grammar.proofs.Chain.{next, halt, past, here, raised, ended}
use Rattle.apex_parse_stmt.proofs.tries.try_stmt.Goals as goal

pub returns-in_err-body : goal.returns-in_err-body
returns-in_err-body g c = raised c.from_residual-in_err-body.ensures (here (past c.in_ok-behind.ensures (halt c.in_err-body.ensures)))

pub returns-in_err-catches : goal.returns-in_err-catches
returns-in_err-catches g c = raised c.from_residual-in_err-catches.ensures (here (past c.in_ok-behind.ensures (next c.in_ok-body.ensures (halt c.in_err-catches.ensures))))

pub returns-in_err-last : goal.returns-in_err-last
returns-in_err-last g c = raised c.from_residual-in_err-last.ensures (here (past c.in_ok-behind.ensures (next c.in_ok-body.ensures (next c.in_ok-catches.ensures (halt c.in_err-last.ensures)))))

pub returns : goal.returns
returns g c = here (past c.in_ok-behind.ensures (next c.in_ok-body.ensures (next c.in_ok-catches.ensures (next c.in_ok-last.ensures (ended c.span_of-span.ensures c.boxed.ensures)))))
