use Rattle.std.proofs.Common.{◌≡◌, drop}
use Rattle.stack_code.specs.Calls.{enter_statics}
use Rattle.metered_vm.specs.Callers.{here_of}
use Rattle.metered_vm.proofs.frames.enter_statics.Given as goal

abbrev pub invariant-statics : goal.invariant-statics
invariant-statics l =
    enter_statics l.image (drop l.class-index l.classes) (here_of l.caller) l.c ≡ enter_statics l.image l.classes (here_of l.caller) l.fn.c
