use Rattle.std.proofs.Common.{◌≡◌, drop}
use Rattle.class_walk.specs.Signatures.{same_params}
use Rattle.class_walk.proofs.signature.same_params.Given as goal

abbrev pub invariant-loop-i : goal.invariant-loop-i
invariant-loop-i l = same_params (drop l.i l.ones) (drop l.i l.others) ≡ same_params l.ones l.others
