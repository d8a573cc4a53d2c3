use Rattle.token_grammar.proofs.Chain.{next, halt, raised}
use Rattle.soql_parse.proofs.select.items.Goals as goal

pub returns-in_err-items : goal.returns-in_err-items
returns-in_err-items g c = raised c.from_residual-in_err-items.ensures (next c.in_ok-first.ensures (halt c.in_err-items.ensures))
