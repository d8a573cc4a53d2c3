use Rattle.std.proofs.Common.{◌≡◌, ◌++◌}
use Rattle.save_statements.specs.Moves as spec
use Rattle.save_chunks.proofs.results.known.Given as goal

abbrev pub invariant-loop-one : goal.invariant-loop-one
invariant-loop-one l = l.all ++ spec.known l.one-iterator.rest.items ≡ spec.known l.fn.results
