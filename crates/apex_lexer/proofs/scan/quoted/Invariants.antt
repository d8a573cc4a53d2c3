use Rattle.apex_lexer.proofs.Literals.{TextSoFar}
use Rattle.apex_lexer.proofs.scan.quoted.Given as goal

abbrev pub invariant-loop-i : goal.invariant-loop-i
invariant-loop-i l = TextSoFar l.text l.i l.escaped l.bad
