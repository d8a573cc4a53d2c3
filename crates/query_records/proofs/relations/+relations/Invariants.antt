use Rattle.std.proofs.Common.{◌≡◌, map, drop}
use Rattle.query_records.specs.Making.{behind_these}
use Rattle.query_records.specs.Records.{over_made, overs_made}
use Rattle.query_records.specs.declared.shape.Over.{Over}
use Rattle.query_records.proofs.relations.+relations.Given as goal

abbrev pub invariant-relations-loop-over : goal.invariant-relations-loop-over
invariant-relations-loop-over l =
    behind_these l.links (map (λ (o : Over). over_made l.schema l.paths o l.object) (drop l.over-index l.overs)) l.heap ≡ overs_made l.schema l.paths l.overs l.object l.initial.heap
