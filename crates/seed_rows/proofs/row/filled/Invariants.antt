use Rattle.std.proofs.Common.{◌≡◌, take}
use Rattle.schema_plans.specs.Schemas.{numbered}
use Rattle.seed_rows.specs.Seeds.{or_default}
use Rattle.seed_rows.proofs.row.filled.Given as goal

abbrev pub invariant-cells : goal.invariant-cells
invariant-cells l = l.cells ≡ numbered or_default 0 (take l.n l.known)
