use Rattle.token_grammar.proofs.Chain.{next, here, ended}
use Rattle.apex_parse_expr.proofs.unary.prefixed.Goals as goal

pub returns : goal.returns
returns g c = here (next c.in_ok-op.ensures.told (next c.in_ok-operand.ensures (ended c.span_of-span.ensures c.closed.ensures)))
