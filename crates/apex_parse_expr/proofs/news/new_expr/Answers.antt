use Rattle.token_grammar.proofs.Chain.{next, halt, past, here, raised, ended}
use Rattle.apex_parse_expr.proofs.news.new_expr.Goals as goal

pub returns-in_err-kind : goal.returns-in_err-kind
returns-in_err-kind g c = raised c.from_residual-in_err-kind.ensures (here (past c.in_ok-behind.ensures (halt c.in_err-kind.ensures)))

pub returns-in_err-part : goal.returns-in_err-part
returns-in_err-part g c = raised c.from_residual-in_err-part.ensures (here (past c.in_ok-behind.ensures (next c.in_ok-kind.ensures (halt c.in_err-part.ensures))))

pub returns : goal.returns
returns g c = here (past c.in_ok-behind.ensures (next c.in_ok-kind.ensures (next c.in_ok-part.ensures (ended c.span_of-span.ensures c.boxed.ensures))))
