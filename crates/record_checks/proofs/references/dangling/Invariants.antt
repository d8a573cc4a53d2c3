use Rattle.std.proofs.Common.{◌≡◌, drop}
use Rattle.save_statements.specs.Checks.{dangling}
use Rattle.record_checks.proofs.references.dangling.Given as goal

abbrev pub invariant-loop-one : goal.invariant-loop-one
invariant-loop-one l = dangling (drop l.one-index l.found) l.pending ≡ dangling l.found l.pending
