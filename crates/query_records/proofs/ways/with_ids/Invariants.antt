use Rattle.std.proofs.Common.{◌≡◌, map, take}
use Rattle.query_records.specs.Shapes.{id_over}
use Rattle.query_records.proofs.ways.with_ids.Given as goal

abbrev pub invariant-loop-way : goal.invariant-loop-way
invariant-loop-way l = l.all ≡ map id_over (take l.way-index l.way-items)
