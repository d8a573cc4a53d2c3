use Rattle.token_grammar.proofs.Chain.{past, one_way}
use Rattle.apex_parse_unit.proofs.classes.interfaces.Goals as goal

pub returns-in_ok-behind : goal.returns-in_ok-behind
returns-in_ok-behind c = one_way c.if-is_word.ensures (past c.in_ok-behind.ensures c.names.ensures)
