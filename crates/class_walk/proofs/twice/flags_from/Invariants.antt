use Rattle.std.proofs.Common.{◌≡◌, ◌++◌, drop}
use Rattle.class_walk.specs.Duplicates.{duplicates_from}
use Rattle.class_walk.specs.SeenMembers.{seen_of}
use Rattle.class_walk.proofs.twice.flags_from.Given as goal

abbrev pub invariant-loop-label : goal.invariant-loop-label
invariant-loop-label l = l.flags ++ duplicates_from (seen_of l.seen) (drop l.label-index l.labels) ≡ duplicates_from (seen_of l.initial.seen) l.labels
