use Rattle.std.proofs.Common.{◌≡◌, take, map}
use Rattle.stack_code.specs.Code.{constructor_code}
use Rattle.stack_code.specs.Images.{code}
use Rattle.typed_program.specs.declared.unit.TypedConstructor.{TypedConstructor}
use Rattle.compile_unit.proofs.parents.constructors_code.Given as goal

abbrev pub invariant-loop-constructor : goal.invariant-loop-constructor
invariant-loop-constructor l = l.codes ≡ map (λ (k : TypedConstructor). code (constructor_code l.layout.program.now l.class k)) (take l.constructor-index l.constructors)
