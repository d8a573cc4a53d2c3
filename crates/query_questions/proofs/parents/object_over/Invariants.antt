use Rattle.std.proofs.Common.{◌≡◌, [], ◌∷◌, ◌++◌, drop}
use Rattle.query_meaning.specs.Parents.{object_after}
use Rattle.query_questions.proofs.parents.object_over.Given as goal

abbrev pub invariant-loop-field : goal.invariant-loop-field
invariant-loop-field l = object_after l.schema l.at (drop l.field-index l.path.parents ++ l.path.field ∷ []) ≡ object_after l.schema l.object (l.path.parents ++ l.path.field ∷ [])
