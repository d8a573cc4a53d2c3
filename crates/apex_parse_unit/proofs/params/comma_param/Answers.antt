use Rattle.token_grammar.proofs.Chain.{past}
use Rattle.apex_parse_unit.proofs.params.comma_param.Goals as goal

pub returns : goal.returns
returns c = past c.in_ok-behind.ensures c.param.ensures
