use Rattle.std.proofs.Common.{◌≡◌, ◌++◌, false, drop}
use Rattle.row_conditions.specs.Pieces.{pieces}
use Rattle.row_conditions.proofs.like.pieces_of.Given as goal

abbrev pub invariant-loop-c : goal.invariant-loop-c
invariant-loop-c l = l.pieces.items ++ pieces l.escaped (drop l.c-index l.pattern) ≡ pieces false l.pattern
