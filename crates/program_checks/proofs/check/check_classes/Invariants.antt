use Rattle.std.proofs.Common.{All, length, take}
use Rattle.stack_code.specs.Checked.{IsFineClass}
use Rattle.program_checks.proofs.check.check_classes.Given as goal

abbrev pub invariant-loop-class : goal.invariant-loop-class
invariant-loop-class l = All (IsFineClass (length l.classes)) (take l.class-index l.classes)
