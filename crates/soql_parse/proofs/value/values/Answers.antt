use Rattle.token_grammar.proofs.Chain.{next, halt, past, stuck, here, since, gives, raised}
use Rattle.soql_parse.proofs.value.values.Goals as goal

pub returns-in_err-first : goal.returns-in_err-first
returns-in_err-first g c = raised c.from_residual-in_err-first.ensures (here (next c.in_ok-inside.ensures.told (halt c.in_err-first.ensures)))

pub returns-in_err-values : goal.returns-in_err-values
returns-in_err-values g c = raised c.from_residual-in_err-values.ensures (here (next c.in_ok-inside.ensures.told (next c.in_ok-first.ensures (halt c.in_err-values.ensures))))

pub returns-in_err-end : goal.returns-in_err-end
returns-in_err-end g c = raised c.from_residual-in_err-end.ensures (here (next c.in_ok-inside.ensures.told (next c.in_ok-first.ensures (next c.in_ok-values.ensures (stuck c.in_err-end.ensures)))))

pub returns : goal.returns
returns g c = rw c.span_of-span.ensures (here (next c.in_ok-inside.ensures.told (next c.in_ok-first.ensures (next c.in_ok-values.ensures (past c.in_ok-end.ensures (since gives))))))
