use Rattle.token_grammar.proofs.Chain.{next, halt, past, stuck, here, since, gives, raised}
use Rattle.apex_parse_expr.proofs.postfix.index_part.Goals as goal

pub returns-in_err-index : goal.returns-in_err-index
returns-in_err-index g c = raised c.from_residual-in_err-index.ensures (here (next c.in_ok-behind.ensures.told (halt c.in_err-index.ensures)))

pub returns-in_err-end : goal.returns-in_err-end
returns-in_err-end g c = raised c.from_residual-in_err-end.ensures (here (next c.in_ok-behind.ensures.told (next c.in_ok-index.ensures (stuck c.in_err-end.ensures))))

pub returns : goal.returns
returns g c = rw c.span_of-span.ensures (here (next c.in_ok-behind.ensures.told (next c.in_ok-index.ensures (past c.in_ok-end.ensures (since gives)))))
