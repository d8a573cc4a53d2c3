use Rattle.token_grammar.proofs.Chain.{other_way}
use Rattle.soql_parse.proofs.select.selection.Goals as goal

pub returns-else-is_count : goal.returns-else-is_count
returns-else-is_count g c = other_way c.if-is_count.ensures c.items.ensures
