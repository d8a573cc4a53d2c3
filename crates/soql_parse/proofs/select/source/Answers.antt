use Rattle.token_grammar.proofs.Chain.{next, halt, gives, raised}
use Rattle.soql_parse.proofs.select.source.Goals as goal

pub returns-in_err-cond : goal.returns-in_err-cond
returns-in_err-cond g c = raised c.from_residual-in_err-cond.ensures (next c.in_ok-object.ensures (halt c.in_err-cond.ensures))

pub returns-in_err-order : goal.returns-in_err-order
returns-in_err-order g c = raised c.from_residual-in_err-order.ensures (next c.in_ok-object.ensures (next c.in_ok-cond.ensures (halt c.in_err-order.ensures)))

pub returns-in_err-limit : goal.returns-in_err-limit
returns-in_err-limit g c = raised c.from_residual-in_err-limit.ensures (next c.in_ok-object.ensures (next c.in_ok-cond.ensures (next c.in_ok-order.ensures (halt c.in_err-limit.ensures))))

pub returns-in_err-offset : goal.returns-in_err-offset
returns-in_err-offset g c = raised c.from_residual-in_err-offset.ensures (next c.in_ok-object.ensures (next c.in_ok-cond.ensures (next c.in_ok-order.ensures (next c.in_ok-limit.ensures (halt c.in_err-offset.ensures)))))

pub returns : goal.returns
returns g c = next c.in_ok-object.ensures (next c.in_ok-cond.ensures (next c.in_ok-order.ensures (next c.in_ok-limit.ensures (next c.in_ok-offset.ensures (gives)))))
