use Rattle.token_grammar.proofs.Chain.{past}
use Rattle.soql_parse.proofs.select.comma_sub_item.Goals as goal

pub returns : goal.returns
returns c = past c.in_ok-behind.ensures c.sub_item.ensures
