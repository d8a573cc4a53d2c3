use Rattle.std.proofs.Common.{◌≡◌, ◌++◌, drop}
use Rattle.stack_code.specs.Code.{fields_code}
use Rattle.compile_unit.proofs.bodies.fields_code.Given as goal

abbrev pub invariant-loop-place : goal.invariant-loop-place
invariant-loop-place l = l.code.items ++ fields_code l.layout.program.now l.class l.place (drop l.place l.fields) ≡ fields_code l.layout.program.now l.class 0 l.fields
