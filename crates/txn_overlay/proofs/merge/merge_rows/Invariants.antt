use Rattle.std.proofs.Common.{◌++◌, ◌+◌, length}
use Rattle.txn_overlay.specs.Merging.{head, merge}
use Rattle.txn_overlay.proofs.Merges.{Stand}
use Rattle.txn_overlay.proofs.merge.merge_rows.Given as goal

abbrev pub invariant-loop-one : goal.invariant-loop-one
invariant-loop-one l = Stand l.rows.items l.one l.own l.other l.others (merge l.fn.own.items l.fn.others.items)

abbrev pub decreases-loop-one : goal.decreases-loop-one
decreases-loop-one l = length (head l.one ++ l.own) + length (head l.other ++ l.others)
