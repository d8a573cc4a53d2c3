use Rattle.std.proofs.Common.{◌≡◌}
use Rattle.row_meaning.specs.Stores.{put_all, taken, without}
use Rattle.record_store.specs.Places.{HasRoom, rows_of}
use Rattle.record_store.proofs.rows.TenantRows.apply.Given as goal

abbrev pub invariant-loop-row : goal.invariant-loop-row
invariant-loop-row l = HasRoom l.row-iterator.rest.items l.self × (put_all l.row-iterator.rest.items (rows_of l.self) ≡ put_all l.fn.writes.puts (rows_of l.fn.self))

abbrev pub invariant-loop-id : goal.invariant-loop-id
invariant-loop-id l = (without l.id-iterator.rest.items (rows_of l.self) ≡ taken l.fn.writes (rows_of l.fn.self))
