use Rattle.std.proofs.Common.{◌≡◌, map, take}
use Rattle.typed_calls.specs.Wants.{wanted}
use Rattle.builtin_signatures.specs.Dues.{each}
use Rattle.typed_calls.proofs.wanted.all_wanted.Given as goal

abbrev pub invariant-loop-i : goal.invariant-loop-i
invariant-loop-i l = l.all ≡ map (wanted l.receiver) (take l.i (each l.dues))
