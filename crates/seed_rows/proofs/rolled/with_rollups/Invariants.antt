use Rattle.std.proofs.Common.{take}
use Rattle.seed_rows.specs.Seeds.{AreRolled}
use Rattle.seed_rows.proofs.rolled.with_rollups.Given as goal

abbrev pub invariant-rows : goal.invariant-rows
invariant-rows l = AreRolled l.fn.schema l.fn.plain (take l.i l.fn.plain) l.rows.items
