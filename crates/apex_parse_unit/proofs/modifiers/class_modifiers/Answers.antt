use Rattle.token_grammar.proofs.Chain.{grown}
use Rattle.token_grammar.proofs.Moves.{nearer}
use Rattle.apex_parse_unit.proofs.Moving.{class_modifier_moves}
use Rattle.apex_parse_unit.proofs.modifiers.class_modifiers.Goals as goal

pub all-smaller : goal.all-smaller
all-smaller c = nearer class_modifier_moves c.in_ok-next.ensures

pub all-preserved : goal.all-preserved
all-preserved c = rw c.in_ok-push.ensures.ok (grown c.all.invariant c.all-test.ensures c.in_ok-next.ensures)
