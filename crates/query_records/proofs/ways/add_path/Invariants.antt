use Rattle.std.proofs.Common.{◌≡◌, [], drop, take}
use Rattle.query_meaning.specs.Parents.{followed}
use Rattle.query_records.specs.Ways.{with_ways}
use Rattle.query_records.proofs.ways.add_path.Given as goal

abbrev pub invariant-loop-i : goal.invariant-loop-i
invariant-loop-i l = with_ways l.ways (followed (take l.i l.parents) (drop l.i l.parents)) ≡ with_ways l.initial.ways (followed [] l.parents)
