use Rattle.class_tables.proofs.line.ClassHeads.+ends_within.Given as goal

abbrev pub decreases-ends_within : goal.decreases-ends_within
decreases-ends_within e = e.most
