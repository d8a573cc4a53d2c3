use Rattle.class_tables.proofs.tables.MemberTables.+field_within.Given as goal

abbrev pub decreases-field_within : goal.decreases-field_within
decreases-field_within l = l.most
