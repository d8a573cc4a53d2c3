use Rattle.token_grammar.proofs.Chain.{next, halt, past, stuck, gives, raised}
use Rattle.apex_parse_expr.proofs.whole.branches.Goals as goal

pub returns-in_err-behind : goal.returns-in_err-behind
returns-in_err-behind g c = raised c.from_residual-in_err-behind.ensures (next c.in_ok-one.ensures (stuck c.in_err-behind.ensures))

pub returns-in_err-other : goal.returns-in_err-other
returns-in_err-other g c = raised c.from_residual-in_err-other.ensures (next c.in_ok-one.ensures (past c.in_ok-behind.ensures (halt c.in_err-other.ensures)))

pub returns : goal.returns
returns g c = next c.in_ok-one.ensures (past c.in_ok-behind.ensures (next c.in_ok-other.ensures gives))
