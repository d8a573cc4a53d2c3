use Rattle.token_grammar.proofs.Chain.{next, here}
use Rattle.soql_parse.proofs.cond.simple.Goals as goal

pub returns : goal.returns
returns g c = here (next c.in_ok-path.ensures c.test_of.ensures)
