use Rattle.token_grammar.proofs.Chain.{next, halt, past, stuck, here, raised, ended}
use Rattle.apex_parse_expr.proofs.args.paren.Goals as goal

pub returns-in_err-tree : goal.returns-in_err-tree
returns-in_err-tree g c = raised c.from_residual-in_err-tree.ensures (here (next c.in_ok-behind.ensures.told (halt c.in_err-tree.ensures)))

pub returns-in_err-end : goal.returns-in_err-end
returns-in_err-end g c = raised c.from_residual-in_err-end.ensures (here (next c.in_ok-behind.ensures.told (next c.in_ok-tree.ensures (stuck c.in_err-end.ensures))))

pub returns : goal.returns
returns g c = here (next c.in_ok-behind.ensures.told (next c.in_ok-tree.ensures (past c.in_ok-end.ensures (ended c.span_of-span.ensures c.boxed.ensures))))
