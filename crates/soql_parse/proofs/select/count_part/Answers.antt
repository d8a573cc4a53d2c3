use Rattle.token_grammar.proofs.Chain.{next, halt, past, gives, raised, one_way}
use Rattle.soql_parse.proofs.select.count_part.Goals as goal

pub returns-in_err-count : goal.returns-in_err-count
returns-in_err-count g c = raised c.from_residual-in_err-count.ensures (one_way c.if-is_word.ensures (halt (past c.in_ok-behind.ensures c.in_err-count.ensures)))

pub returns-in_ok-count : goal.returns-in_ok-count
returns-in_ok-count g c = one_way c.if-is_word.ensures (next (past c.in_ok-behind.ensures c.in_ok-count.ensures) gives)
