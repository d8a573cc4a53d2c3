use Rattle.token_grammar.proofs.Chain.{next, past, stuck, here, raised}
use Rattle.soql_parse.proofs.select.counting.Goals as goal

pub returns-in_err-end : goal.returns-in_err-end
returns-in_err-end c = raised c.from_residual-in_err-end.ensures (here (past c.in_ok-behind.ensures (next c.in_ok-behind-2.ensures.told (stuck c.in_err-end.ensures))))
