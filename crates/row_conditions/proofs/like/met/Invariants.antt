use Rattle.std.proofs.Common.{◌≡◌, ◌++◌, List, ℕ, length}
use Rattle.std.specs.Str.{chars}
use Rattle.row_conditions.specs.Pieces.{column}
use Rattle.row_conditions.proofs.like.met.Given as goal

-- what was taken from the text, and its column
abbrev pub invariant-loop-c : goal.invariant-loop-c
invariant-loop-c l = (t : List ℕ) × (l.left.items ++ t ≡ chars l.text) × (l.column.items ≡ column l.parts t)

abbrev pub decreases-loop-c : goal.decreases-loop-c
decreases-loop-c l = length l.left.items
