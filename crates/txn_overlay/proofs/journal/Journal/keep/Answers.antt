use Rattle.std.proofs.Common.{length}
use Rattle.txn_overlay.proofs.Undoing.{fall_popped, popped}
use Rattle.txn_overlay.proofs.journal.Journal.keep.Goals as goal

pub invariant_of-self : goal.invariant_of-self
invariant_of-self c =
    fall_popped (length c.self.inside.log) c.self.inside.marks c.pop.new.self c.self.invariant (popped c.pop.result c.self.inside.marks c.pop.new.self c.pop.ensures)
