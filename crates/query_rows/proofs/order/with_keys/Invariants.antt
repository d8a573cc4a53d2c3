use Rattle.std.proofs.Common.{◌≡◌, ◌++◌}
use Rattle.query_rows.specs.Orders.{AllKeyed, rows_of}
use Rattle.query_rows.specs.Read.{value_of}
use Rattle.query_rows.proofs.order.with_keys.Given as goal

abbrev pub invariant-loop-row : goal.invariant-loop-row
invariant-loop-row l = AllKeyed (value_of l.reader) l.keys l.all.items × (rows_of l.all.items ++ l.row-iterator.rest.items ≡ l.fn.rows.items)
