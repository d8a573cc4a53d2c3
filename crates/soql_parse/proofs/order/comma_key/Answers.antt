use Rattle.token_grammar.proofs.Chain.{past}
use Rattle.soql_parse.proofs.order.comma_key.Goals as goal

pub returns : goal.returns
returns c = past c.in_ok-behind.ensures c.key.ensures
