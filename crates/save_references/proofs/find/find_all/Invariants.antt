use Rattle.std.proofs.Common.{length}
use Rattle.save_meaning.specs.Drafts.{references}
use Rattle.save_statements.specs.Records.{going}
use Rattle.save_references.proofs.Finding.{GoesOn}
use Rattle.save_references.proofs.find.find_all.Given as goal

abbrev pub invariant-loop-reference : goal.invariant-loop-reference
invariant-loop-reference l = GoesOn l.overlay (going l.records) (references 0 l.fields) l.fn.answers l.found l.left l.answers

abbrev pub decreases-loop-reference : goal.decreases-loop-reference
decreases-loop-reference l = length l.left
