use Rattle.token_grammar.proofs.Chain.{next, halt, past, stuck, gives, raised}
use Rattle.apex_parse_expr.proofs.args.args.Goals as goal

pub returns-in_err-exprs : goal.returns-in_err-exprs
returns-in_err-exprs g c = raised c.from_residual-in_err-exprs.ensures (next c.in_ok-behind.ensures.told (halt c.in_err-exprs.ensures))

pub returns-in_err-end : goal.returns-in_err-end
returns-in_err-end g c = raised c.from_residual-in_err-end.ensures (next c.in_ok-behind.ensures.told (next c.in_ok-exprs.ensures (stuck c.in_err-end.ensures)))

pub returns : goal.returns
returns g c = next c.in_ok-behind.ensures.told (next c.in_ok-exprs.ensures (past c.in_ok-end.ensures (gives)))
