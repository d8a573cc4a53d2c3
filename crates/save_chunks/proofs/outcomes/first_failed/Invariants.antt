use Rattle.std.proofs.Common.{◌≡◌}
use Rattle.save_statements.specs.Statements as spec
use Rattle.save_chunks.proofs.outcomes.first_failed.Given as goal

abbrev pub invariant-loop-place : goal.invariant-loop-place
invariant-loop-place l = spec.first_failed l.place-iterator.rest.items ≡ spec.first_failed l.fn.told
