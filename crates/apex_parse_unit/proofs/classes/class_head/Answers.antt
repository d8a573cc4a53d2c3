use Rattle.token_grammar.proofs.Chain.{next, past}
use Rattle.apex_parse_unit.proofs.classes.class_head.Goals as goal

pub returns : goal.returns
returns c = next c.in_ok-modifiers.ensures (past c.in_ok-behind.ensures c.named_head.ensures)
