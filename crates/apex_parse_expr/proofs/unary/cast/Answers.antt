use Rattle.token_grammar.proofs.Chain.{next, halt, past, stuck, here, raised, ended}
use Rattle.apex_parse_expr.proofs.unary.cast.Goals as goal

pub returns-in_err-kind : goal.returns-in_err-kind
returns-in_err-kind g c = raised c.from_residual-in_err-kind.ensures (here (next c.in_ok-behind.ensures.told (halt c.in_err-kind.ensures)))

pub returns-in_err-behind-2 : goal.returns-in_err-behind-2
returns-in_err-behind-2 g c = raised c.from_residual-in_err-behind-2.ensures (here (next c.in_ok-behind.ensures.told (next c.in_ok-kind.ensures (stuck c.in_err-behind-2.ensures))))

pub returns-in_err-operand : goal.returns-in_err-operand
returns-in_err-operand g c = raised c.from_residual-in_err-operand.ensures (here (next c.in_ok-behind.ensures.told (next c.in_ok-kind.ensures (past c.in_ok-behind-2.ensures (halt c.in_err-operand.ensures)))))

pub returns : goal.returns
returns g c = here (next c.in_ok-behind.ensures.told (next c.in_ok-kind.ensures (past c.in_ok-behind-2.ensures (next c.in_ok-operand.ensures (ended c.span_of-span.ensures c.closed.ensures)))))
