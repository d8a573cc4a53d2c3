use Rattle.std.proofs.Common.{◌≡◌, take, map}
use Rattle.typed_program.specs.declared.unit.TypedClass.{TypedClass}
use Rattle.compile_unit.proofs.image.names_of.Given as goal

abbrev pub invariant-loop-class : goal.invariant-loop-class
invariant-loop-class l = l.names ≡ map (λ (k : TypedClass). k.name) (take l.class-index l.classes)
