use Rattle.token_grammar.proofs.Chain.{next, halt, past, gives, raised, one_way}
use Rattle.soql_parse.proofs.select.where_part.Goals as goal

pub returns-in_err-cond : goal.returns-in_err-cond
returns-in_err-cond g c = raised c.from_residual-in_err-cond.ensures (one_way c.if-is_word.ensures (halt (past c.in_ok-behind.ensures c.in_err-cond.ensures)))

pub returns-in_ok-cond : goal.returns-in_ok-cond
returns-in_ok-cond g c = one_way c.if-is_word.ensures (next (past c.in_ok-behind.ensures c.in_ok-cond.ensures) gives)
