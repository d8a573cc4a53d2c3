use Rattle.std.proofs.Common.{◌≡◌, drop}
use Rattle.apex_lexer.specs.declared.brackets.Part.TheVariants.{Code}
use Rattle.apex_lexer.specs.Unclosed.{unclosed}
use Rattle.apex_lexer.proofs.Unclosed.{finish}
use Rattle.apex_lexer.proofs.brackets.unclosed_of.Given as goal

abbrev pub invariant-loop-at : goal.invariant-loop-at
invariant-loop-at l = finish l.part l.stack.items l.at (drop l.at l.text) ≡ unclosed Code 0 l.text
