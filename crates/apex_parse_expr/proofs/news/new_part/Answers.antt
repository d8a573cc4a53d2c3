use Rattle.token_grammar.proofs.Chain.{other_way}
use Rattle.apex_parse_expr.proofs.news.new_part.Goals as goal

pub returns-else-is_sign : goal.returns-else-is_sign
returns-else-is_sign g c = other_way c.if-is_fields.ensures (other_way c.if-is_sign.ensures c.new_args.ensures)
