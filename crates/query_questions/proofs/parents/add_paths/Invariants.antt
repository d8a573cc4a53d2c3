use Rattle.std.proofs.Common.{◌≡◌, drop}
use Rattle.query_questions.specs.Ways.{leading, with_ways}
use Rattle.query_questions.proofs.parents.add_paths.Given as goal

abbrev pub invariant-loop-path : goal.invariant-loop-path
invariant-loop-path l = with_ways l.ways.keys (leading (drop l.path-index l.paths)) ≡ with_ways l.initial.ways.keys (leading l.paths)
