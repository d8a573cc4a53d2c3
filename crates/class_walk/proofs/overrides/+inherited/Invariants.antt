use Rattle.class_walk.proofs.overrides.+inherited.Given as goal

abbrev pub decreases-inherited : goal.decreases-inherited
decreases-inherited l = l.most
