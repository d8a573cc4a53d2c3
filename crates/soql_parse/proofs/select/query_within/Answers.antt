use Rattle.token_grammar.proofs.Chain.{next, halt, past, stuck, here, raised, ended, given}
use Rattle.soql_parse.proofs.select.query_within.Goals as goal

pub returns-in_err-select : goal.returns-in_err-select
returns-in_err-select g c = raised c.from_residual-in_err-select.ensures (here (past c.in_ok-behind.ensures (halt c.in_err-select.ensures)))

pub returns-in_err-behind-2 : goal.returns-in_err-behind-2
returns-in_err-behind-2 g c = raised c.from_residual-in_err-behind-2.ensures (here (past c.in_ok-behind.ensures (next c.in_ok-select.ensures (stuck c.in_err-behind-2.ensures))))

pub returns-in_err-source : goal.returns-in_err-source
returns-in_err-source g c = raised c.from_residual-in_err-source.ensures (here (past c.in_ok-behind.ensures (next c.in_ok-select.ensures (past c.in_ok-behind-2.ensures (halt c.in_err-source.ensures)))))

pub returns-in_err-locked : goal.returns-in_err-locked
returns-in_err-locked g c = raised c.from_residual-in_err-locked.ensures (here (past c.in_ok-behind.ensures (next c.in_ok-select.ensures (past c.in_ok-behind-2.ensures (next c.in_ok-source.ensures (halt (rw c.has_order.ensures at c.in_err-locked.ensures)))))))

pub returns : goal.returns
returns g c = here (past c.in_ok-behind.ensures (next c.in_ok-select.ensures (past c.in_ok-behind-2.ensures (next c.in_ok-source.ensures (next (rw c.has_order.ensures at c.in_ok-locked.ensures) (ended c.span_of-span.ensures (λ ts. given c.query_tree.ensures c.boxed.ensures)))))))
