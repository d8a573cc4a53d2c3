use Rattle.token_grammar.proofs.Chain.{halt, past, here, raised}
use Rattle.soql_parse.proofs.value.negative.Goals as goal

pub returns-in_err-number : goal.returns-in_err-number
returns-in_err-number c = raised c.from_residual-in_err-number.ensures (here (past c.in_ok-behind.ensures (halt c.in_err-number.ensures)))
