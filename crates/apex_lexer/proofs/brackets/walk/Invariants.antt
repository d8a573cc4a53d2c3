use Rattle.std.proofs.Common.{◌≡◌, take}
use Rattle.apex_lexer.specs.declared.brackets.Part.TheVariants.{Code}
use Rattle.apex_lexer.specs.Brackets.{part_after, opened}
use Rattle.apex_lexer.proofs.brackets.walk.Given as goal

abbrev pub invariant-loop-i : goal.invariant-loop-i
invariant-loop-i l = record {
  part : l.part ≡ part_after Code (take l.i l.text);
  depth : l.depth ≡ opened Code 0 (take l.i l.text);
}
