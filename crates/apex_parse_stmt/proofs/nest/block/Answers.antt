use Rattle.token_grammar.proofs.Chain.{next, halt, past, stuck, here, since, gives, raised}
use Rattle.apex_parse_stmt.proofs.nest.block.Goals as goal

pub returns-in_err-stmts : goal.returns-in_err-stmts
returns-in_err-stmts g c = raised c.from_residual-in_err-stmts.ensures (here (next c.in_ok-behind.ensures.told (halt c.in_err-stmts.ensures)))

pub returns-in_err-end : goal.returns-in_err-end
returns-in_err-end g c = raised c.from_residual-in_err-end.ensures (here (next c.in_ok-behind.ensures.told (next c.in_ok-stmts.ensures (stuck c.in_err-end.ensures))))

pub returns : goal.returns
returns g c = rw c.span_of-span.ensures (here (next c.in_ok-behind.ensures.told (next c.in_ok-stmts.ensures (past c.in_ok-end.ensures (since gives)))))
