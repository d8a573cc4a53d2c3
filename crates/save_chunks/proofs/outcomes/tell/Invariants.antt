use Rattle.std.proofs.Common.{◌≡◌, ◌++◌}
use Rattle.save_statements.specs.Statements as spec
use Rattle.save_chunks.proofs.outcomes.tell.Given as goal

abbrev pub invariant-loop-one : goal.invariant-loop-one
invariant-loop-one l = l.told ++ spec.told l.rest l.one-iterator.rest.items ≡ spec.told l.rows l.fn.records
