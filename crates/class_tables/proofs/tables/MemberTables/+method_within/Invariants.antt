use Rattle.class_tables.proofs.tables.MemberTables.+method_within.Given as goal

abbrev pub decreases-method_within : goal.decreases-method_within
decreases-method_within l = l.most
