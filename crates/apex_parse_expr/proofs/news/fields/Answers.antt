use Rattle.token_grammar.proofs.Chain.{next, halt, past, stuck, here, since, gives, raised}
use Rattle.apex_parse_expr.proofs.news.fields.Goals as goal

pub returns-in_err-first : goal.returns-in_err-first
returns-in_err-first g c = raised c.from_residual-in_err-first.ensures (here (next c.in_ok-behind.ensures.told (halt c.in_err-first.ensures)))

pub returns-in_err-fields : goal.returns-in_err-fields
returns-in_err-fields g c = raised c.from_residual-in_err-fields.ensures (here (next c.in_ok-behind.ensures.told (next c.in_ok-first.ensures (halt c.in_err-fields.ensures))))

pub returns-in_err-end : goal.returns-in_err-end
returns-in_err-end g c = raised c.from_residual-in_err-end.ensures (here (next c.in_ok-behind.ensures.told (next c.in_ok-first.ensures (next c.in_ok-fields.ensures (stuck c.in_err-end.ensures)))))

pub returns : goal.returns
returns g c = rw c.span_of-span.ensures (here (next c.in_ok-behind.ensures.told (next c.in_ok-first.ensures (next c.in_ok-fields.ensures (past c.in_ok-end.ensures (since gives))))))
