use Rattle.std.proofs.Common.{◌≡◌, take, map}
use Rattle.heap_methods.specs.Operands.{key_of}
use Rattle.heap_methods.proofs.operands.keys_of_values.Given as goal

abbrev pub invariant-loop-value : goal.invariant-loop-value
invariant-loop-value l = l.keys ≡ map key_of (take l.value-index l.values)
