use Rattle.token_grammar.proofs.Chain.{next, here}
use Rattle.apex_parse_expr.proofs.whole.expr_with.Goals as goal

pub returns : goal.returns
returns g c = here (next c.in_ok-first.ensures c.expr_rest.ensures)
