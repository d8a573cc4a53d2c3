use Rattle.token_grammar.proofs.Chain.{one_way, other_way}
use Rattle.apex_parse_stmt.proofs.leaf.jumps.Goals as goal

pub returns-then-is_word-2 : goal.returns-then-is_word-2
returns-then-is_word-2 c = other_way c.if-is_word.ensures (one_way c.if-is_word-2.ensures c.break_stmt.ensures)

pub returns-then-is_word-3 : goal.returns-then-is_word-3
returns-then-is_word-3 c = other_way c.if-is_word.ensures (other_way c.if-is_word-2.ensures (one_way c.if-is_word-3.ensures c.continue_stmt.ensures))

pub returns-else-is_word-3 : goal.returns-else-is_word-3
returns-else-is_word-3 c = other_way c.if-is_word.ensures (other_way c.if-is_word-2.ensures (other_way c.if-is_word-3.ensures c.throw_stmt.ensures))
