use Rattle.std.proofs.Common.{◌-◌, length}
use Rattle.formula_rules.proofs.Runs.{SoFar}
use Rattle.formula_rules.proofs.scan.tokens_of.Given as goal

abbrev pub invariant-loop-tokens : goal.invariant-loop-tokens
invariant-loop-tokens l = SoFar l.text l.tokens l.at

abbrev pub decreases-loop-tokens : goal.decreases-loop-tokens
decreases-loop-tokens l = length l.text - l.at
