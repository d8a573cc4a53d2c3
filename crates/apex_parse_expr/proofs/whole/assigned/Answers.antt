use Rattle.token_grammar.proofs.Chain.{next, ended}
use Rattle.apex_parse_expr.proofs.whole.assigned.Goals as goal

pub returns : goal.returns
returns g c = next c.in_ok-op.ensures.told (next c.in_ok-value.ensures (ended c.span_of-span.ensures c.boxed.ensures))
