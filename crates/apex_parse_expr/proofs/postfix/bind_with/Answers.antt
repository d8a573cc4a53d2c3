use Rattle.token_grammar.proofs.Chain.{next, halt, past, here, since, gives, raised}
use Rattle.apex_parse_expr.proofs.postfix.bind_with.Goals as goal

pub returns-in_err-tree : goal.returns-in_err-tree
returns-in_err-tree g c = raised c.from_residual-in_err-tree.ensures (here (past c.in_ok-behind.ensures (halt c.in_err-tree.ensures)))

pub returns : goal.returns
returns g c = rw c.span_of-span.ensures (here (past c.in_ok-behind.ensures (next c.in_ok-tree.ensures (since gives))))
