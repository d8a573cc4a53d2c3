use Rattle.token_grammar.proofs.Chain.{past, stuck, here, raised, ended}
use Rattle.apex_parse_stmt.proofs.leaf.break_stmt.Goals as goal

pub returns-in_err-end : goal.returns-in_err-end
returns-in_err-end c = raised c.from_residual-in_err-end.ensures (here (past c.in_ok-behind.ensures (stuck c.in_err-end.ensures)))

pub returns : goal.returns
returns c = here (past c.in_ok-behind.ensures (past c.in_ok-end.ensures (ended c.span_of-span.ensures c.boxed.ensures)))
