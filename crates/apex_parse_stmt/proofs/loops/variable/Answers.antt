use Rattle.token_grammar.proofs.Chain.{next}
use Rattle.apex_parse_stmt.proofs.loops.variable.Goals as goal

pub returns : goal.returns
returns c = next c.in_ok-name.ensures c.first_value.ensures
