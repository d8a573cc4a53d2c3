use Rattle.token_grammar.proofs.Chain.{past, stuck, here, raised}
use Rattle.soql_parse.proofs.Locks.{locked}
use Rattle.soql_parse.proofs.select.locking.Goals as goal

pub returns-in_err-end : goal.returns-in_err-end
returns-in_err-end c = raised c.from_residual-in_err-end.ensures (here (past c.in_ok-behind.ensures (stuck c.in_err-end.ensures)))

pub returns-then-ordered : goal.returns-then-ordered
returns-then-ordered c = here (past c.in_ok-behind.ensures (past c.in_ok-end.ensures (locked c.if-ordered.true)))
