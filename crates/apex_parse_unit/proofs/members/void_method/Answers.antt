use Rattle.token_grammar.proofs.Chain.{next}
use Rattle.apex_parse_unit.proofs.members.void_method.Goals as goal

pub returns : goal.returns
returns c = next c.in_ok-answer.ensures (next c.in_ok-name.ensures c.method_rest.ensures)
