use Rattle.token_grammar.proofs.Chain.{next, halt, past, stuck, gives, raised}
use Rattle.apex_parse_unit.proofs.params.params.Goals as goal

pub returns-in_err-params : goal.returns-in_err-params
returns-in_err-params c = raised c.from_residual-in_err-params.ensures (next c.in_ok-inside.ensures.told (halt c.in_err-params.ensures))

pub returns-in_err-end : goal.returns-in_err-end
returns-in_err-end c = raised c.from_residual-in_err-end.ensures (next c.in_ok-inside.ensures.told (next c.in_ok-params.ensures (stuck c.in_err-end.ensures)))

pub returns : goal.returns
returns c = next c.in_ok-inside.ensures.told (next c.in_ok-params.ensures (past c.in_ok-end.ensures gives))
