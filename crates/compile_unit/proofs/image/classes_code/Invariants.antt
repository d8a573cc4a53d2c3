use Rattle.std.proofs.Common.{◌≡◌, ◌++◌, drop}
use Rattle.stack_code.specs.Images.{classes_from}
use Rattle.compile_unit.proofs.image.classes_code.Given as goal

abbrev pub invariant-loop-class : goal.invariant-loop-class
invariant-loop-class l = l.codes ++ classes_from l.layout.program.now l.class (drop l.class l.layout.program.now.classes) ≡ classes_from l.layout.program.now 0 l.layout.program.now.classes
