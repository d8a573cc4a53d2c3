use Rattle.std.proofs.Common.{◌≡◌, ◌++◌, false, List, vec_len}
use Rattle.query_rows.specs.declared.order.Keyed.{Keyed}
use Rattle.query_rows.specs.Orders.{keyed_order, sorted_in}
use Rattle.query_rows.proofs.order.sort_mixed.Given as goal

-- what was taken from the end is in order
abbrev pub invariant-loop-row : goal.invariant-loop-row
invariant-loop-row l = (taken : List Keyed) × (l.rest.items ++ taken ≡ l.fn.rows.items) × (l.done.items ≡ sorted_in (keyed_order false l.keys) taken)

abbrev pub decreases-loop-row : goal.decreases-loop-row
decreases-loop-row l = vec_len l.rest
