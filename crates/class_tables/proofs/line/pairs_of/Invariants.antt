use Rattle.std.proofs.Common.{take}
use Rattle.class_tables.specs.Pairs.{HasPairs}
use Rattle.class_tables.proofs.line.pairs_of.Given as goal

abbrev pub invariant-loop-i : goal.invariant-loop-i
invariant-loop-i l = HasPairs (take l.i l.heads) l.pairs
