use Rattle.std.proofs.Common.{◌≡◌, ◌++◌}
use Rattle.std.specs.Prelude.{filter}
use Rattle.apex_rows.specs.declared.row.Row.{Row}
use Rattle.row_meaning.specs.Conds.{holds}
use Rattle.query_rows.specs.Read.{value_of}
use Rattle.query_rows.proofs.kept.sift.Given as goal

abbrev pub invariant-loop-row : goal.invariant-loop-row
invariant-loop-row l =
    l.kept.items ++ filter (λ (r : Row). holds l.binds (value_of l.reader r) l.cond) l.row-iterator.rest.items ≡ filter (λ (r : Row). holds l.binds (value_of l.reader r) l.cond) l.fn.rows.items
