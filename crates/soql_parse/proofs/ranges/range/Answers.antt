use Rattle.token_grammar.proofs.Chain.{next, halt, past, here, raised}
use Rattle.soql_parse.proofs.ranges.range.Goals as goal

pub returns-in_err-behind-2 : goal.returns-in_err-behind-2
returns-in_err-behind-2 c = raised c.from_residual-in_err-behind-2.ensures (here (past c.in_ok-behind.ensures (halt c.in_err-behind-2.ensures)))

pub returns-in_err-to : goal.returns-in_err-to
returns-in_err-to c = raised c.from_residual-in_err-to.ensures (here (past c.in_ok-behind.ensures (next c.in_ok-behind-2.ensures (halt c.in_err-to.ensures))))
