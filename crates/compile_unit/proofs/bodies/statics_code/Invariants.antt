use Rattle.std.proofs.Common.{◌≡◌, ◌++◌, drop}
use Rattle.stack_code.specs.Code.{statics_code}
use Rattle.compile_unit.proofs.bodies.statics_code.Given as goal

abbrev pub invariant-loop-place : goal.invariant-loop-place
invariant-loop-place l = l.code.items ++ statics_code l.layout.program.now l.class l.place (drop l.place l.fields) ≡ statics_code l.layout.program.now l.class 0 l.fields
