use Rattle.token_grammar.proofs.Chain.{next, ended}
use Rattle.apex_parse_expr.proofs.args.call.Goals as goal

pub returns : goal.returns
returns g c = next c.in_ok-args.ensures (ended c.span_of-span.ensures c.boxed.ensures)
