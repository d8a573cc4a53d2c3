use Rattle.std.proofs.Common.{◌≡◌, ◌++◌, length}
use Rattle.txn_overlay.proofs.merge.stacked.Given as goal

abbrev pub invariant-loop-row : goal.invariant-loop-row
invariant-loop-row l = l.rows.items ++ l.stack ≡ l.fn.rows.items

abbrev pub decreases-loop-row : goal.decreases-loop-row
decreases-loop-row l = length l.rows.items
