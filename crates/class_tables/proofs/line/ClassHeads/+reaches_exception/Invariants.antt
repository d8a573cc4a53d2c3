use Rattle.class_tables.proofs.line.ClassHeads.+reaches_exception.Given as goal

abbrev pub decreases-reaches_exception : goal.decreases-reaches_exception
decreases-reaches_exception e = e.most
