use Rattle.std.proofs.Common.{◌≡◌, ◌++◌, drop}
use Rattle.save_statements.specs.Moves as spec
use Rattle.save_chunks.proofs.results.none_yet.Given as goal

abbrev pub invariant-loop-row : goal.invariant-loop-row
invariant-loop-row l = l.results ++ spec.none_yet (drop l._row-index l.rows) ≡ spec.none_yet l.rows
