use Rattle.std.proofs.Common.{◌≡◌, ◌++◌}
use Rattle.std.specs.Prelude.{filter}
use Rattle.apex_rows.specs.declared.row.Row.{Row}
use Rattle.row_meaning.specs.Queries.{is_visible}
use Rattle.row_access.specs.Views.{access_of}
use Rattle.query_rows.proofs.kept.seen_by.Given as goal

abbrev pub invariant-loop-row : goal.invariant-loop-row
invariant-loop-row l =
    l.kept.items ++ filter (λ (r : Row). is_visible (access_of l.viewer r)) l.row-iterator.rest.items ≡ filter (λ (r : Row). is_visible (access_of l.viewer r)) l.fn.rows.items
