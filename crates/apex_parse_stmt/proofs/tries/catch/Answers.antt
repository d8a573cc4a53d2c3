use Rattle.token_grammar.proofs.Chain.{next, halt, here, since, gives, raised}
use Rattle.apex_parse_stmt.proofs.tries.catch.Goals as goal

pub returns-in_err-body : goal.returns-in_err-body
returns-in_err-body g c = raised c.from_residual-in_err-body.ensures (here (next c.in_ok-head.ensures (halt c.in_err-body.ensures)))

pub returns : goal.returns
returns g c = rw c.span_of-span.ensures (here (next c.in_ok-head.ensures (next c.in_ok-body.ensures (since gives))))
