use Rattle.std.proofs.Common.{◌≡◌, take, map}
use Rattle.class_walk.specs.Duplicates.{signature_label}
use Rattle.class_walk.proofs.label.signature_labels.Given as goal

abbrev pub invariant-loop-signature : goal.invariant-loop-signature
invariant-loop-signature l = l.labels ≡ map signature_label (take l.signature-index l.signatures)
