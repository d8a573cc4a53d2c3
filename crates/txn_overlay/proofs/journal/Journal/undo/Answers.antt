use Rattle.txn_overlay.proofs.Undoing.{gone_back}
use Rattle.txn_overlay.proofs.journal.Journal.undo.Goals as goal

pub returns-in-Some : goal.returns-in-Some
returns-in-Some c =
    gone_back c.self.inside.marks c.self.inside.log c.self.inside.overlay c.args.self.now c.self.view_is
    c.in-Some.mark c.pop.new.self c.take_back.new.log c.take_back.new.overlay c.self.invariant c.in-Some.ensures c.take_back.ensures.log c.take_back.ensures.overlay
