use Rattle.std.proofs.Common.{◌≡◌, ◌++◌, length}
use Rattle.trigger_things.specs.Things.{by_id, listed_from, records}
use Rattle.trigger_things.proofs.records.make_records.Given as goal

abbrev pub invariant-loop-row : goal.invariant-loop-row
invariant-loop-row l = record {
  things : l.heap ++ records l.guard l.row-iterator.rest.items ≡ l.fn.heap ++ records l.guard l.fn.rows;
  list : l.made.list ++ listed_from (length l.heap) l.row-iterator.rest.items ≡ listed_from (length l.fn.heap) l.fn.rows;
  by_id : l.made.by_id ++ by_id (length l.heap) l.row-iterator.rest.items ≡ by_id (length l.fn.heap) l.fn.rows;
}
