use Rattle.std.proofs.Common.{◌≡◌, drop}
use Rattle.save_meaning.specs.Drafts.{lacking}
use Rattle.record_checks.proofs.fields.lacking.Given as goal

abbrev pub invariant-loop-i : goal.invariant-loop-i
invariant-loop-i l = lacking l.i (drop l.i l.fields) l.row ≡ lacking 0 l.fields l.row
