use Rattle.std.proofs.Common.{◌≡◌, drop}
use Rattle.save_statements.specs.Checks.{broken}
use Rattle.record_checks.proofs.validity.broken.Given as goal

abbrev pub invariant-loop-i : goal.invariant-loop-i
invariant-loop-i l = broken (drop l.i l.rules) (drop l.i l.heads) l.pending ≡ broken l.rules l.heads l.pending
