use Rattle.std.proofs.Common.{◌≡◌, length}
use Rattle.apex_text.specs.Fold.{folded}
use Rattle.row_meaning.specs.Cells.{bytes_cmp}
use Rattle.row_conditions.proofs.cells.folded_order.Given as goal

abbrev pub invariant-bytes : goal.invariant-bytes
invariant-bytes l = bytes_cmp (folded l.left) (folded l.right) ≡ bytes_cmp (folded l.a) (folded l.b)

abbrev pub decreases-bytes : goal.decreases-bytes
decreases-bytes l = length l.left
