use Rattle.token_grammar.proofs.Chain.{next, halt, past, stuck, here, raised, ended}
use Rattle.apex_parse_stmt.proofs.leaf.return_stmt.Goals as goal

pub returns-in_err-value : goal.returns-in_err-value
returns-in_err-value c = raised c.from_residual-in_err-value.ensures (here (past c.in_ok-behind.ensures (halt c.in_err-value.ensures)))

pub returns-in_err-end : goal.returns-in_err-end
returns-in_err-end c = raised c.from_residual-in_err-end.ensures (here (past c.in_ok-behind.ensures (next c.in_ok-value.ensures (stuck c.in_err-end.ensures))))

pub returns : goal.returns
returns c = here (past c.in_ok-behind.ensures (next c.in_ok-value.ensures (past c.in_ok-end.ensures (ended c.span_of-span.ensures c.boxed.ensures))))
