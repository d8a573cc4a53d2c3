use Rattle.std.proofs.Common.{◌≡◌, [], drop}
use Rattle.query_meaning.specs.Parents.{followed}
use Rattle.query_questions.specs.Ways.{with_ways}
use Rattle.query_questions.proofs.parents.add_path.Given as goal

abbrev pub invariant-loop-field : goal.invariant-loop-field
invariant-loop-field l = with_ways l.ways.keys (followed l.before (drop l.field-index l.path.parents)) ≡ with_ways l.initial.ways.keys (followed [] l.path.parents)
