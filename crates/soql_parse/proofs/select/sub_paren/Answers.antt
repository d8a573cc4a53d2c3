use Rattle.token_grammar.proofs.Chain.{next, halt, past, stuck, here, since, gives, raised}
use Rattle.soql_parse.proofs.select.sub_paren.Goals as goal

pub returns-in_err-query : goal.returns-in_err-query
returns-in_err-query g c = raised c.from_residual-in_err-query.ensures (here (next c.in_ok-inside.ensures.told (halt c.in_err-query.ensures)))

pub returns-in_err-end : goal.returns-in_err-end
returns-in_err-end g c = raised c.from_residual-in_err-end.ensures (here (next c.in_ok-inside.ensures.told (next c.in_ok-query.ensures (stuck c.in_err-end.ensures))))

pub returns : goal.returns
returns g c = rw c.span_of-span.ensures (here (next c.in_ok-inside.ensures.told (next c.in_ok-query.ensures (past c.in_ok-end.ensures (since gives)))))
