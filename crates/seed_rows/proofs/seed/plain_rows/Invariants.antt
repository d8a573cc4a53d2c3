use Rattle.std.proofs.Common.{take}
use Rattle.seed_rows.specs.Views.{all_as_written}
use Rattle.seed_rows.proofs.SeedSteps.{OnlyRows}
use Rattle.seed_rows.proofs.seed.plain_rows.Given as goal

abbrev pub invariant-rows : goal.invariant-rows
invariant-rows l = OnlyRows l.places.schema.now (all_as_written l.all) (all_as_written (take l.i l.all)) l.made.rows.items
