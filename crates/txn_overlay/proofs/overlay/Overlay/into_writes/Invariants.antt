use Rattle.std.proofs.Common.{length}
use Rattle.txn_overlay.specs.Changes.{plain}
use Rattle.txn_overlay.proofs.Writing.{Written}
use Rattle.txn_overlay.proofs.overlay.Overlay.into_writes.Given as goal

abbrev pub invariant-loop-entry : goal.invariant-loop-entry
invariant-loop-entry l = Written l.ticket.session l.ticket.index l.puts l.drops (plain l.changes.entries) l.fn.self

abbrev pub decreases-loop-entry : goal.decreases-loop-entry
decreases-loop-entry l = length l.changes.entries
