use Rattle.std.proofs.Common.{◌≡◌, drop}
use Rattle.save_meaning.specs.Drafts.{too_long}
use Rattle.record_checks.proofs.fields.too_long.Given as goal

abbrev pub invariant-loop-i : goal.invariant-loop-i
invariant-loop-i l = too_long l.i (drop l.i l.fields) l.row ≡ too_long 0 l.fields l.row
