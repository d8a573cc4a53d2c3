use Rattle.std.proofs.Common.{◌≡◌, map, drop}
use Rattle.query_records.specs.Making.{behind_these}
use Rattle.query_records.specs.Records.{all_made, found_made}
use Rattle.query_records.proofs.records.make_records.Given as goal

abbrev pub invariant-loop-one : goal.invariant-loop-one
invariant-loop-one l = behind_these l.records (map (found_made l.schema l.shape) (drop l.one-index l.found)) l.heap ≡ all_made (map (found_made l.schema l.shape) l.found) l.initial.heap
