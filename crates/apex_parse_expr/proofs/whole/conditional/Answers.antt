use Rattle.token_grammar.proofs.Chain.{next, ended}
use Rattle.apex_parse_expr.proofs.whole.conditional.Goals as goal

pub returns : goal.returns
returns g c = next c.in_ok-behind.ensures.told (next c.in_ok-branches.ensures (ended c.span_of-span.ensures c.boxed.ensures))
