use Rattle.token_grammar.proofs.Chain.{next, halt, here, raised}
use Rattle.soql_parse.proofs.order.key.Goals as goal

pub returns-in_err-nulls_last : goal.returns-in_err-nulls_last
returns-in_err-nulls_last c = raised c.from_residual-in_err-nulls_last.ensures (here (next c.in_ok-path.ensures (next c.in_ok-descending.ensures (halt c.in_err-nulls_last.ensures))))
