use Rattle.token_grammar.proofs.Chain.{past}
use Rattle.soql_parse.proofs.select.comma_item.Goals as goal

pub returns : goal.returns
returns g c = past c.in_ok-behind.ensures c.item.ensures
