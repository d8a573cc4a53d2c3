use Rattle.std.proofs.Common.{◌≤◌, ◌-◌, length, map}
use Rattle.apex_lexer.specs.Unclosed.{IsCursor}
use Rattle.apex_lexer.specs.Reading.{shown}
use Rattle.apex_lexer.specs.Passes.{SoFar}
use Rattle.apex_lexer.proofs.lexer.pass.Given as goal

abbrev pub invariant-loop-at : goal.invariant-loop-at
invariant-loop-at l = record {
  read : SoFar l.text l.at (map shown l.tokens.items);
  within : l.at ≤ length l.text;
  cursor : IsCursor l.text l.brackets;
  behind : l.brackets.at ≤ l.at;
}

abbrev pub decreases-loop-at : goal.decreases-loop-at
decreases-loop-at l = length l.text - l.at
