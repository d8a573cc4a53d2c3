use Rattle.txn_overlay.specs.Changes.{shown}
use Rattle.txn_overlay.proofs.Undoing.{changed_if_ok, fall_either}
use Rattle.txn_overlay.proofs.journal.Journal.change.Goals as goal

pub invariant_of-self-2 : goal.invariant_of-self-2
invariant_of-self-2 c =
    fall_either c.write_logged.result c.self.inside.marks c.self.inside.log c.write_logged.new.log c.self.inside.overlay c.write_logged.new.overlay
    c.self.invariant c.write_logged.ensures.logged c.write_logged.ensures.same

pub returns-clause-ok : goal.returns-clause-ok
returns-clause-ok c =
    changed_if_ok c.self.inside.marks c.self.inside.log c.self.inside.overlay c.args.self.now c.self.view_is
    c.write_logged.result c.write_logged.new.log c.write_logged.new.overlay c.args.id (shown c.args.change)
    c.self.invariant c.write_logged.ensures.ok c.write_logged.ensures.logged
