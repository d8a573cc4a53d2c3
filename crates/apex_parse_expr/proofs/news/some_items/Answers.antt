use Rattle.token_grammar.proofs.Chain.{next}
use Rattle.apex_parse_expr.proofs.news.some_items.Goals as goal

pub returns : goal.returns
returns g c = next c.in_ok-first.ensures c.more_items.ensures
