use Rattle.std.proofs.Common.{◌≡◌, ◌-◌, ◌≤◌, ◌++◌, false, take, drop, vec_len}
use Rattle.query_rows.specs.Orders.{keyed_order, placed_in}
use Rattle.query_rows.proofs.order.place.Given as goal

abbrev pub invariant-front : goal.invariant-front
invariant-front l = (l.at ≤ vec_len l.rows) × (take l.at l.rows.items ++ placed_in (keyed_order false l.keys) l.row (drop l.at l.rows.items) ≡ placed_in (keyed_order false l.keys) l.row l.rows.items)

abbrev pub decreases-front : goal.decreases-front
decreases-front l = vec_len l.rows - l.at
