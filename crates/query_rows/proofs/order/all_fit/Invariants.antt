use Rattle.std.proofs.Common.{◌≡◌, drop}
use Rattle.std.specs.List.{list_all}
use Rattle.query_rows.specs.declared.order.Keyed.{Keyed}
use Rattle.query_rows.specs.Orders.{fits}
use Rattle.query_rows.proofs.order.all_fit.Given as goal

abbrev pub invariant-loop-row : goal.invariant-loop-row
invariant-loop-row l = list_all (λ (x : Keyed). fits l.kinds x.cells) (drop l.row-index l.rows) ≡ list_all (λ (x : Keyed). fits l.kinds x.cells) l.rows
