use Rattle.token_grammar.proofs.Chain.{next, halt, past, stuck, gives, raised}
use Rattle.apex_parse_expr.proofs.news.field.Goals as goal

pub returns-in_err-behind : goal.returns-in_err-behind
returns-in_err-behind g c = raised c.from_residual-in_err-behind.ensures (next c.in_ok-field.ensures (stuck c.in_err-behind.ensures))

pub returns-in_err-value : goal.returns-in_err-value
returns-in_err-value g c = raised c.from_residual-in_err-value.ensures (next c.in_ok-field.ensures (past c.in_ok-behind.ensures (halt c.in_err-value.ensures)))

pub returns : goal.returns
returns g c = next c.in_ok-field.ensures (past c.in_ok-behind.ensures (next c.in_ok-value.ensures (gives)))
