use Rattle.std.proofs.Common.{◌≡◌, ◌++◌, drop}
use Rattle.query_rows.specs.Orders.{key_cells}
use Rattle.query_rows.specs.Read.{value_of}
use Rattle.query_rows.proofs.order.read_keys.Given as goal

abbrev pub invariant-loop-key : goal.invariant-loop-key
invariant-loop-key l = l.cells ++ key_cells (value_of l.reader) (drop l.key-index l.keys) l.row ≡ key_cells (value_of l.reader) l.keys l.row
