use Rattle.class_tables.proofs.line.ClassHeads.+meets.Given as goal

abbrev pub decreases-meets : goal.decreases-meets
decreases-meets e = e.most
