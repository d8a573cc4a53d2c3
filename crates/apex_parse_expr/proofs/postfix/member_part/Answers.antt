use Rattle.token_grammar.proofs.Chain.{next, halt, past, here, raised, one_way}
use Rattle.apex_parse_expr.proofs.postfix.member_part.Goals as goal

pub returns-in_err-word : goal.returns-in_err-word
returns-in_err-word g c = raised c.from_residual-in_err-word.ensures (past c.in_ok-start.ensures (here (halt c.in_err-word.ensures)))

pub returns-then-is_sign : goal.returns-then-is_sign
returns-then-is_sign g c = past c.in_ok-start.ensures (here (next c.in_ok-word.ensures (one_way c.if-is_sign.ensures c.call_part.ensures)))
