use Rattle.token_grammar.proofs.Chain.{next, halt, past, stuck, gives, raised}
use Rattle.apex_parse_stmt.proofs.loops.for_parens.Goals as goal

pub returns-in_err-head : goal.returns-in_err-head
returns-in_err-head c = raised c.from_residual-in_err-head.ensures (next c.in_ok-inside.ensures.told (halt c.in_err-head.ensures))

pub returns-in_err-end : goal.returns-in_err-end
returns-in_err-end c = raised c.from_residual-in_err-end.ensures (next c.in_ok-inside.ensures.told (next c.in_ok-head.ensures (stuck c.in_err-end.ensures)))

pub returns : goal.returns
returns c = next c.in_ok-inside.ensures.told (next c.in_ok-head.ensures (past c.in_ok-end.ensures gives))
