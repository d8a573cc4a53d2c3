use Rattle.token_grammar.proofs.Chain.{next}
use Rattle.apex_parse_unit.proofs.members.typed.Goals as goal

pub returns : goal.returns
returns c = next c.in_ok-kind.ensures (next c.in_ok-name.ensures c.typed_rest.ensures)
