use Rattle.std.proofs.Common.{◌≡◌, ◌+◌, drop, length}
use Rattle.formula_rules.specs.Tokens.{run}
use Rattle.formula_rules.specs.Readings.{test_of}
use Rattle.formula_rules.proofs.scan.count.Given as goal

abbrev pub invariant-loop-i : goal.invariant-loop-i
invariant-loop-i l = length (run (test_of l.run) (drop l.i l.text)) + l.i ≡ length (run (test_of l.run) l.text)
