use Rattle.std.proofs.Common.{◌≡◌, take}
use Rattle.tenant_shards.proofs.same.same_rows.Given as goal

abbrev pub invariant-rows : goal.invariant-rows
invariant-rows l = take l.k l.one ≡ take l.k l.other
