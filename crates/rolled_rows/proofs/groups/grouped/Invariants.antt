use Rattle.std.proofs.Common.{take}
use Rattle.rolled_rows.specs.Groups.{AreGroups}
use Rattle.rolled_rows.proofs.groups.grouped.Given as goal

abbrev pub invariant-rows : goal.invariant-rows
invariant-rows l = AreGroups l.schema (take l.i l.rows) l.groups
