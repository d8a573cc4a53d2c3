use Rattle.std.proofs.Common.{◌≡◌, take, map}
use Rattle.stack_code.specs.Code.{block_code}
use Rattle.stack_code.specs.Images.{code}
use Rattle.typed_program.specs.declared.unit.TypedTrigger.{TypedTrigger}
use Rattle.compile_unit.proofs.bodies.triggers_code.Given as goal

abbrev pub invariant-loop-trigger : goal.invariant-loop-trigger
invariant-loop-trigger l = l.codes ≡ map (λ (t : TypedTrigger). code (block_code l.layout.program.now t.body)) (take l.trigger-index l.triggers)
