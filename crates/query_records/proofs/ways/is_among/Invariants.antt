use Rattle.std.proofs.Common.{◌≡◌, drop}
use Rattle.std.specs.List.{list_any}
use Rattle.query_meaning.specs.Parents.{same_path}
use Rattle.query_records.proofs.ways.is_among.Given as goal

abbrev pub invariant-loop-way : goal.invariant-loop-way
invariant-loop-way l = list_any (same_path (record { parents = l.parents; field = l.field })) (drop l.way-index l.ways) ≡ list_any (same_path (record { parents = l.parents; field = l.field })) l.ways
