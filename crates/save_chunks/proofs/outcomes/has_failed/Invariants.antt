use Rattle.std.proofs.Common.{◌≡◌, drop}
use Rattle.save_statements.specs.Statements.{failed_in}
use Rattle.save_chunks.proofs.outcomes.has_failed.Given as goal

abbrev pub invariant-loop-one : goal.invariant-loop-one
invariant-loop-one l = failed_in (drop l.one-index l.told) ≡ failed_in l.told
