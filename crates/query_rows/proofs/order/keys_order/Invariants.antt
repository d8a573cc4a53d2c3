use Rattle.std.proofs.Common.{◌≡◌, drop}
use Rattle.apex_num.specs.declared.cell.Cell.TheVariants.{Null}
use Rattle.query_rows.specs.Orders.{keys_order}
use Rattle.query_rows.proofs.order.keys_order.Given as goal

abbrev pub invariant-loop-key : goal.invariant-loop-key
invariant-loop-key l = (l.null ≡ Null) × (keys_order l.kinds (drop l.key-index l.keys) l.left l.right ≡ keys_order l.kinds l.keys l.a l.b)
