use Rattle.std.proofs.Common.{◌≡◌, take}
use Rattle.record_store.specs.Places.{HasRoom, rows_of}
use Rattle.record_store.proofs.rows.TenantRows.reserve.Given as goal

abbrev pub invariant-loop-row : goal.invariant-loop-row
invariant-loop-row l = HasRoom (take l.row-index l.writes.puts) l.self × (rows_of l.self ≡ rows_of l.initial.self)
