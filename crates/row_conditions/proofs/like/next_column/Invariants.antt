use Rattle.std.proofs.Common.{◌≡◌, ◌++◌, drop}
use Rattle.row_conditions.specs.Pieces.{turned_from, turned}
use Rattle.row_conditions.proofs.like.next_column.Given as goal

abbrev pub invariant-loop-part : goal.invariant-loop-part
invariant-loop-part l = l.into.items ++ turned_from l.c (drop l.part-index l.parts) l.below l.last l.rest ≡ turned l.c l.parts l.column
