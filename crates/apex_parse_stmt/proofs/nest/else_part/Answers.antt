use Rattle.token_grammar.proofs.Chain.{next, halt, past, gives, raised, one_way}
use Rattle.apex_parse_stmt.proofs.nest.else_part.Goals as goal

pub returns-in_err-tree : goal.returns-in_err-tree
returns-in_err-tree g c = raised c.from_residual-in_err-tree.ensures (one_way c.if-is_word.ensures (halt (past c.in_ok-behind.ensures c.in_err-tree.ensures)))

pub returns-in_ok-tree : goal.returns-in_ok-tree
returns-in_ok-tree g c = one_way c.if-is_word.ensures (next (past c.in_ok-behind.ensures c.in_ok-tree.ensures) gives)
