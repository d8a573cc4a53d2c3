use Rattle.std.proofs.Common.{◌≡◌, drop}
use Rattle.std.specs.List.{list_any}
use Rattle.class_tables.specs.Tables.{all_in}
use Rattle.class_walk.specs.Missing as spec
use Rattle.class_walk.proofs.promised.any_unmet.Given as goal

abbrev pub invariant-loop-signature : goal.invariant-loop-signature
invariant-loop-signature l = list_any (spec.is_unmet (all_in l.tables) l.lines.heads l.class) (drop l.signature-index l.signatures) ≡ list_any (spec.is_unmet (all_in l.tables) l.lines.heads l.class) l.signatures
