use Rattle.std.proofs.Common.{◌≡◌, take, map}
use Rattle.heap_methods.specs.Making.{pair_of}
use Rattle.heap_methods.proofs.making.copy_pairs.Given as goal

abbrev pub invariant-loop-pair : goal.invariant-loop-pair
invariant-loop-pair l = l.done ≡ map pair_of (take l.pair-index l.pairs)
