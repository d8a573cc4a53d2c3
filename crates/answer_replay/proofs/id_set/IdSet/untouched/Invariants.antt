use Rattle.std.proofs.Common.{◌≡◌, ◌++◌}
use Rattle.save_meaning.specs.Drafts.{untouched}
use Rattle.answer_replay.proofs.id_set.IdSet.untouched.Given as goal

abbrev pub invariant-loop-id : goal.invariant-loop-id
invariant-loop-id l = l.ids ++ untouched l.overlay l.id-iterator ≡ untouched l.overlay l.self
