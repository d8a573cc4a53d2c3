use Rattle.token_grammar.proofs.Chain.{next, halt, here, raised}
use Rattle.apex_parse_expr.proofs.postfix.postfix.Goals as goal

pub returns-in_err-parts : goal.returns-in_err-parts
returns-in_err-parts g c = raised c.from_residual-in_err-parts.ensures (here (next c.in_ok-first.ensures (halt c.in_err-parts.ensures)))

pub returns-in_err-parts-2 : goal.returns-in_err-parts-2
returns-in_err-parts-2 g c = raised c.from_residual-in_err-parts-2.ensures (here (next c.in_ok-first.ensures (next c.in_ok-parts.ensures (halt c.in_err-parts-2.ensures))))
