use Rattle.token_grammar.proofs.Chain.{next, halt, raised, one_way, other_way}
use Rattle.apex_parse_stmt.proofs.loops.for_declared.Goals as goal

pub returns-in_err-name : goal.returns-in_err-name
returns-in_err-name c = raised c.from_residual-in_err-name.ensures (next c.in_ok-kind.ensures (halt c.in_err-name.ensures))

pub returns-then-is_sign : goal.returns-then-is_sign
returns-then-is_sign c = next c.in_ok-kind.ensures (next c.in_ok-name.ensures (one_way c.if-is_sign.ensures c.for_each.ensures))

pub returns-else-is_sign : goal.returns-else-is_sign
returns-else-is_sign c = next c.in_ok-kind.ensures (next c.in_ok-name.ensures (other_way c.if-is_sign.ensures c.for_variables.ensures))
