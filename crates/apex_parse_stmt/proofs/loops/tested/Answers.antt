use Rattle.token_grammar.proofs.Chain.{next, halt, past, stuck, gives, raised}
use Rattle.apex_parse_stmt.proofs.loops.tested.Goals as goal

pub returns-in_err-tree : goal.returns-in_err-tree
returns-in_err-tree c = raised c.from_residual-in_err-tree.ensures (next c.in_ok-inside.ensures.told (halt c.in_err-tree.ensures))

pub returns-in_err-end : goal.returns-in_err-end
returns-in_err-end c = raised c.from_residual-in_err-end.ensures (next c.in_ok-inside.ensures.told (next c.in_ok-tree.ensures (stuck c.in_err-end.ensures)))

pub returns : goal.returns
returns c = next c.in_ok-inside.ensures.told (next c.in_ok-tree.ensures (past c.in_ok-end.ensures gives))
