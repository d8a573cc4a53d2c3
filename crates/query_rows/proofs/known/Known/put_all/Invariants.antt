use Rattle.std.proofs.Common.{◌≡◌}
use Rattle.row_meaning.specs.Stores.{put_all}
use Rattle.query_rows.proofs.known.Known.put_all.Given as goal

abbrev pub invariant-loop-row : goal.invariant-loop-row
invariant-loop-row l = put_all l.row-iterator.rest.items l.self ≡ put_all l.fn.rows.items l.initial.self
