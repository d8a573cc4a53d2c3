use Rattle.std.proofs.Common.{◌≡◌, drop}
use Rattle.std.specs.List.{list_any}
use Rattle.class_tables.specs.Tables.{all_in}
use Rattle.class_walk.specs.Missing as spec
use Rattle.class_walk.proofs.promised.any_lacks.Given as goal

abbrev pub invariant-loop-interface : goal.invariant-loop-interface
invariant-loop-interface l = list_any (spec.lacks_for (all_in l.tables) l.lines.heads l.class) (drop l.interface-index l.interfaces) ≡ list_any (spec.lacks_for (all_in l.tables) l.lines.heads l.class) l.interfaces
