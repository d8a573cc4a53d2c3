use Rattle.token_grammar.proofs.Chain.{next, halt, here, since, gives, raised}
use Rattle.apex_parse_expr.proofs.postfix.bound.Goals as goal

pub returns-in_err-parts : goal.returns-in_err-parts
returns-in_err-parts g c = raised c.from_residual-in_err-parts.ensures (here (next c.in_ok-first.ensures (halt c.in_err-parts.ensures)))

pub returns : goal.returns
returns g c = rw c.in_ok-postfixed.ensures (rw c.span_of-span.ensures (here (next c.in_ok-first.ensures (next c.in_ok-parts.ensures (since gives)))))
