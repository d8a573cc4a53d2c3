use Rattle.token_grammar.proofs.Chain.{past}
use Rattle.apex_parse_expr.proofs.news.comma_field.Goals as goal

pub returns : goal.returns
returns g c = past c.in_ok-behind.ensures c.field.ensures
