use Rattle.apex_lexer.proofs.Unclosed.{unclosed_preserved}
use Rattle.apex_lexer.proofs.brackets.unclosed_of.Goals as goal

pub loop-at-preserved : goal.loop-at-preserved
loop-at-preserved c =
    unclosed_preserved c.args.text.now c.loop-at.at c.loop-at.part c.loop-at.stack.items c.bracket_at.result c.note.new.stack.items c.part_after-part.result c.loop-at-test.true c.loop-at.invariant c.bracket_at.ensures c.in_ok-note.ensures c.part_after-part.ensures
