use Rattle.token_grammar.proofs.Chain.{next, halt, past, stuck, here, since, gives, raised}
use Rattle.soql_parse.proofs.order.ordered.Goals as goal

pub returns-in_err-behind-2 : goal.returns-in_err-behind-2
returns-in_err-behind-2 c = raised c.from_residual-in_err-behind-2.ensures (here (past c.in_ok-behind.ensures (stuck c.in_err-behind-2.ensures)))

pub returns-in_err-first : goal.returns-in_err-first
returns-in_err-first c = raised c.from_residual-in_err-first.ensures (here (past c.in_ok-behind.ensures (past c.in_ok-behind-2.ensures (halt c.in_err-first.ensures))))

pub returns-in_err-keys : goal.returns-in_err-keys
returns-in_err-keys c = raised c.from_residual-in_err-keys.ensures (here (past c.in_ok-behind.ensures (past c.in_ok-behind-2.ensures (next c.in_ok-first.ensures (halt c.in_err-keys.ensures)))))

pub returns : goal.returns
returns c = rw c.span_of-whole.ensures (here (past c.in_ok-behind.ensures (past c.in_ok-behind-2.ensures (next c.in_ok-first.ensures (next c.in_ok-keys.ensures (since gives))))))
