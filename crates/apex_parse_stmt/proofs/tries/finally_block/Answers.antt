use Rattle.token_grammar.proofs.Chain.{past}
use Rattle.apex_parse_stmt.proofs.tries.finally_block.Goals as goal

pub returns : goal.returns
returns g c = past c.in_ok-behind.ensures c.block.ensures
