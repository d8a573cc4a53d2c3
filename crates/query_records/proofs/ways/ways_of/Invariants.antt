use Rattle.std.proofs.Common.{◌≡◌, [], drop}
use Rattle.query_records.specs.Ways.{with_ways, leading}
use Rattle.query_records.proofs.ways.ways_of.Given as goal

abbrev pub invariant-loop-path : goal.invariant-loop-path
invariant-loop-path l = with_ways l.ways (leading (drop l.path-index l.paths)) ≡ with_ways [] (leading l.paths)
