use Rattle.std.proofs.Common.{◌≡◌, false, take}
use Rattle.seed_rows.specs.Views.{all_as_written, test_of}
use Rattle.seed_rows.specs.Words as spec
use Rattle.seed_rows.proofs.cells.any_field.Given as goal

abbrev pub invariant-fields : goal.invariant-fields
invariant-fields l = spec.any_field (test_of (all_as_written l.ground.all.now) l.check) (take l.i l.fields) (take l.i l.known) ≡ false
