use Rattle.class_walk.proofs.promised.+promised_within.Given as goal

abbrev pub decreases-promised_within : goal.decreases-promised_within
decreases-promised_within l = l.most
