use Rattle.token_grammar.proofs.Chain.{next, halt, past, raised, ended}
use Rattle.soql_parse.proofs.cond.not_within.Goals as goal

pub returns-in_err-list : goal.returns-in_err-list
returns-in_err-list g c = raised c.from_residual-in_err-list.ensures (past c.in_ok-behind.ensures (past c.in_ok-behind-2.ensures (halt c.in_err-list.ensures)))

pub returns : goal.returns
returns g c = past c.in_ok-behind.ensures (past c.in_ok-behind-2.ensures (next c.in_ok-list.ensures (ended c.span_of-span.ensures c.boxed.ensures)))
