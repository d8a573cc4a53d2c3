use Rattle.apex_lexer.proofs.Literals.{BlockSoFar}
use Rattle.apex_lexer.proofs.scan.block_comment.Given as goal

abbrev pub invariant-loop-i : goal.invariant-loop-i
invariant-loop-i l = BlockSoFar l.text l.i l.star
