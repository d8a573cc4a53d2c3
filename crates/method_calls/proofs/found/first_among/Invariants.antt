use Rattle.std.proofs.Common.{◌≡◌, drop}
use Rattle.class_tables.specs.Lookups.{first_in, own_method}
use Rattle.class_tables.specs.Tables.{all_in}
use Rattle.method_calls.proofs.found.first_among.Given as goal

abbrev pub invariant-loop-class : goal.invariant-loop-class
invariant-loop-class l = first_in (own_method l.key) (all_in l.tables) (drop l.class-index l.classes) ≡ first_in (own_method l.key) (all_in l.tables) l.classes
