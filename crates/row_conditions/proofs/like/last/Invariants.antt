use Rattle.std.proofs.Common.{◌≡◌, drop}
use Rattle.row_conditions.specs.Pieces.{last_from, last_of}
use Rattle.row_conditions.proofs.like.last.Given as goal

abbrev pub invariant-loop-b : goal.invariant-loop-b
invariant-loop-b l = last_from l.end (drop l.b-index l.column) ≡ last_of l.column
