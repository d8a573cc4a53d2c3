use Rattle.token_grammar.proofs.Chain.{past}
use Rattle.apex_parse_stmt.proofs.loops.comma_variable.Goals as goal

pub returns : goal.returns
returns c = past c.in_ok-behind.ensures c.variable.ensures
