use Rattle.token_grammar.proofs.Chain.{past, here, ended}
use Rattle.apex_parse_stmt.proofs.leaf.empty.Goals as goal

pub returns : goal.returns
returns c = here (past c.in_ok-end.ensures (ended c.span_of.ensures c.boxed.ensures))
