use Rattle.std.proofs.Common.{◌≡◌, drop}
use Rattle.typed_calls.specs.Admissions.{admits_from}
use Rattle.builtin_signatures.specs.Dues.{each}
use Rattle.typed_calls.proofs.admitted.admits_all.Given as goal

abbrev pub invariant-loop-i : goal.invariant-loop-i
invariant-loop-i l = admits_from l.receiver (each l.dues) l.i (drop l.i l.args) ≡ admits_from l.receiver (each l.dues) 0 l.args
