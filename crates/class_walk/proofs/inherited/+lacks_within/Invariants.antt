use Rattle.class_walk.proofs.inherited.+lacks_within.Given as goal

abbrev pub decreases-lacks_within : goal.decreases-lacks_within
decreases-lacks_within l = l.most
