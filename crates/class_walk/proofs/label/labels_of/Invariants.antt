use Rattle.std.proofs.Common.{◌≡◌, take, map}
use Rattle.class_walk.specs.Duplicates.{label_of}
use Rattle.class_walk.proofs.label.labels_of.Given as goal

abbrev pub invariant-loop-member : goal.invariant-loop-member
invariant-loop-member l = l.labels ≡ map label_of (take l.member-index l.members)
