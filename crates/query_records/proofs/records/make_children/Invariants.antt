use Rattle.std.proofs.Common.{◌≡◌, [], map, drop}
use Rattle.apex_rows.specs.declared.row.Child.{Child}
use Rattle.query_records.specs.Making.{behind_these, children_made}
use Rattle.query_records.specs.Records.{row_made}
use Rattle.query_records.proofs.records.make_children.Given as goal

abbrev pub invariant-loop-child : goal.invariant-loop-child
invariant-loop-child l =
    behind_these l.records (map (λ (c : Child). row_made l.schema l.shape c.row c.paths []) (drop l.child-index l.children)) l.heap ≡ children_made l.schema l.shape l.children l.initial.heap
