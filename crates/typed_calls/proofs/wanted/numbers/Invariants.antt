use Rattle.std.proofs.Common.{◌≡◌, map, take, Some}
use Rattle.static_types.specs.declared.kind.ValueType.TheVariants as V
use Rattle.typed_values.specs.declared.typed.Typed.{Typed}
use Rattle.typed_calls.proofs.wanted.numbers.Given as goal

abbrev pub invariant-loop-arg : goal.invariant-loop-arg
invariant-loop-arg l = l.all ≡ map (λ (a : Typed). Some (V.Primitive l.p)) (take l._arg-index l.args)
