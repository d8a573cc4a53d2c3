use Rattle.std.proofs.Common.{◌≡◌, map, drop}
use Rattle.query_records.specs.Making.{behind_these, lists_made}
use Rattle.query_records.specs.Records.{under_made, paired}
use Rattle.query_records.proofs.records.make_lists.Given as goal

abbrev pub invariant-loop-i : goal.invariant-loop-i
invariant-loop-i l =
    behind_these l.under (map (under_made l.schema) (paired l.schema (drop l.i l.shapes) (drop l.i l.lists))) l.heap ≡ lists_made l.schema l.shapes l.lists l.initial.heap
