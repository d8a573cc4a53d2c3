use Rattle.token_grammar.proofs.Chain.{past}
use Rattle.apex_parse_stmt.proofs.declare.comma_declarator.Goals as goal

pub returns : goal.returns
returns c = past c.in_ok-behind.ensures c.declarator.ensures
