use Rattle.token_grammar.proofs.Chain.{one_way, other_way}
use Rattle.apex_parse_stmt.proofs.read.stmt_with.Goals as goal

pub returns-then-is_nested : goal.returns-then-is_nested
returns-then-is_nested g c = other_way c.if-is_sign.ensures (other_way c.if-is_sign-2.ensures (one_way c.if-is_nested.ensures c.nested.ensures))

pub returns-then-is_jump : goal.returns-then-is_jump
returns-then-is_jump g c = other_way c.if-is_sign.ensures (other_way c.if-is_sign-2.ensures (other_way c.if-is_nested.ensures (one_way c.if-is_jump.ensures c.jumps.ensures)))

pub returns-then-is_dml : goal.returns-then-is_dml
returns-then-is_dml g c = other_way c.if-is_sign.ensures (other_way c.if-is_sign-2.ensures (other_way c.if-is_nested.ensures (other_way c.if-is_jump.ensures (one_way c.if-is_dml.ensures c.dml_stmt.ensures))))

pub returns-else-is_dml : goal.returns-else-is_dml
returns-else-is_dml g c = other_way c.if-is_sign.ensures (other_way c.if-is_sign-2.ensures (other_way c.if-is_nested.ensures (other_way c.if-is_jump.ensures (other_way c.if-is_dml.ensures c.other.ensures))))
