use Rattle.std.proofs.Common.{◌≡◌, ◌++◌, map, take, Some}
use Rattle.seed_rows.specs.Views.{as_written}
use Rattle.seed_rows.specs.Written.{rows_of}
use Rattle.seed_rows.proofs.written.push_rows.Given as goal

abbrev pub invariant-loop-row : goal.invariant-loop-row
invariant-loop-row l = map as_written l.all.items ≡ map as_written l.fn.all.items ++ rows_of l.entry.object (Some l.object) (take l.row-index l.entry.rows)
