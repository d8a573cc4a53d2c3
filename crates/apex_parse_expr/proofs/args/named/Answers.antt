use Rattle.token_grammar.proofs.Chain.{next, here, one_way, other_way}
use Rattle.apex_parse_expr.proofs.args.named.Goals as goal

pub returns-then-is_sign : goal.returns-then-is_sign
returns-then-is_sign g c = here (next c.in_ok-word.ensures (one_way c.if-is_sign.ensures c.call.ensures))

pub returns-else-is_sign : goal.returns-else-is_sign
returns-else-is_sign g c = here (next c.in_ok-word.ensures (other_way c.if-is_sign.ensures (c.boxed.ensures _)))
