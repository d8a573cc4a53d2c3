use Rattle.token_grammar.proofs.Chain.{other_way}
use Rattle.apex_parse_unit.proofs.members.member_body.Goals as goal

pub returns-else-is_constructor : goal.returns-else-is_constructor
returns-else-is_constructor c = other_way c.if-is_word.ensures (other_way c.if-is_constructor.ensures c.typed.ensures)
