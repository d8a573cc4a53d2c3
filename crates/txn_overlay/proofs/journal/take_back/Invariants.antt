use Rattle.std.proofs.Common.{length}
use Rattle.txn_overlay.proofs.Undoing.{Taken}
use Rattle.txn_overlay.proofs.journal.take_back.Given as goal

abbrev pub invariant-back : goal.invariant-back
invariant-back l = Taken l.mark l.log l.overlay l.fn.log l.fn.overlay

abbrev pub decreases-back : goal.decreases-back
decreases-back l = length l.log
