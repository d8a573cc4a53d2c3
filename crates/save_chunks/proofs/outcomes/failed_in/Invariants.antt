use Rattle.std.proofs.Common.{◌≡◌, ◌++◌}
use Rattle.save_statements.specs.Statements as spec
use Rattle.save_chunks.proofs.outcomes.failed_in.Given as goal

abbrev pub invariant-loop-one : goal.invariant-loop-one
invariant-loop-one l = l.failed ++ spec.failed_in l.one-iterator.rest.items ≡ spec.failed_in l.fn.told
