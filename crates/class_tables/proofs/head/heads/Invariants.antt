use Rattle.std.proofs.Common.{◌≡◌, ◌++◌, drop}
use Rattle.type_names.specs.TypeTrees.{known}
use Rattle.class_tables.specs.Heads.{heads_from}
use Rattle.class_tables.proofs.head.heads.Given as goal

abbrev pub invariant-loop-i : goal.invariant-loop-i
invariant-loop-i l = l.all ++ heads_from (known l.names) l.interfaces l.i (drop l.i l.units) ≡ heads_from (known l.names) l.interfaces 0 l.units
