use Rattle.std.proofs.Common.{◌≡◌, ◌++◌}
use Rattle.save_statements.specs.Statements as spec
use Rattle.save_chunks.proofs.outcomes.give_up.Given as goal

abbrev pub invariant-loop-one : goal.invariant-loop-one
invariant-loop-one l = l.all ++ spec.given_up l.one-iterator.rest.items ≡ spec.given_up l.fn.told
