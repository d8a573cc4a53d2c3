use Rattle.std.proofs.Common.{◌≡◌, take}
use Rattle.tenant_shards.proofs.same.same_cells.Given as goal

abbrev pub invariant-cells : goal.invariant-cells
invariant-cells l = take l.k l.one ≡ take l.k l.other
