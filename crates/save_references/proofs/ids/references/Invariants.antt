use Rattle.std.proofs.Common.{◌≡◌, ◌≤◌, drop, length}
use Rattle.save_meaning.specs.Drafts.{references}
use Rattle.save_references.proofs.ids.references.Given as goal

abbrev pub invariant-back : goal.invariant-back
invariant-back l = (l.i ≤ length l.fields) × (l.refs ≡ references l.i (drop l.i l.fields))

abbrev pub decreases-back : goal.decreases-back
decreases-back l = l.i
