use Rattle.std.proofs.Common.{◌≡◌, take, map}
use Rattle.stack_code.specs.Images.{body_code}
use Rattle.compile_unit.proofs.bodies.methods_code.Given as goal

abbrev pub invariant-loop-method : goal.invariant-loop-method
invariant-loop-method l = l.codes ≡ map (body_code l.layout.program.now) (take l.method-index l.methods)
