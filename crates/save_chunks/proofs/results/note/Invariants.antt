use Rattle.std.proofs.Common.{◌≡◌}
use Rattle.save_statements.specs.Moves.{noted}
use Rattle.save_chunks.proofs.results.note.Given as goal

abbrev pub invariant-loop-one : goal.invariant-loop-one
invariant-loop-one l = noted l.one-iterator.rest.items l.results ≡ noted l.fn.told l.fn.results
