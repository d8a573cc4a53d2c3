use Rattle.std.proofs.Common.{◌≡◌, ◌++◌}
use Rattle.query_rows.specs.Orders.{rows_of}
use Rattle.query_rows.proofs.order.without_keys.Given as goal

abbrev pub invariant-loop-one : goal.invariant-loop-one
invariant-loop-one l = l.rows.items ++ rows_of l.one-iterator.rest.items ≡ rows_of l.fn.keyed.items
