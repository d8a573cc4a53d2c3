use Rattle.std.proofs.Common.{length, ◌-◌}
use Rattle.apex_lexer.specs.Unclosed.{IsBelow}
use Rattle.apex_lexer.proofs.brackets.below.Given as goal

abbrev pub invariant-loop-passed : goal.invariant-loop-passed
invariant-loop-passed l = IsBelow l.places l.passed l.at

abbrev pub decreases-loop-passed : goal.decreases-loop-passed
decreases-loop-passed l = length l.places - l.passed
