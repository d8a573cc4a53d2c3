use Rattle.std.proofs.Common.{◌≡◌, ◌∷◌, ◌++◌, drop, true}
use Rattle.row_conditions.specs.Pieces.{begun}
use Rattle.row_conditions.proofs.like.first_column.Given as goal

abbrev pub invariant-loop-part : goal.invariant-loop-part
invariant-loop-part l = l.column.items ++ begun l.last (drop l.part-index l.parts) ≡ true ∷ begun true l.parts
