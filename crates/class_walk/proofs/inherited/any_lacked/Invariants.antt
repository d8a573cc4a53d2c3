use Rattle.std.proofs.Common.{◌≡◌, drop}
use Rattle.std.specs.List.{list_any}
use Rattle.class_tables.specs.Tables.{all_in}
use Rattle.class_walk.specs.Missing as spec
use Rattle.class_walk.proofs.inherited.any_lacked.Given as goal

abbrev pub invariant-loop-method : goal.invariant-loop-method
invariant-loop-method l = list_any (spec.is_lacked (all_in l.tables) l.lines.heads l.class) (drop l.method-index l.methods) ≡ list_any (spec.is_lacked (all_in l.tables) l.lines.heads l.class) l.methods
