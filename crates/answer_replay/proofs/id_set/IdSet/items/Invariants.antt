use Rattle.std.proofs.Common.{◌≡◌, ◌++◌}
use Rattle.answer_replay.proofs.id_set.IdSet.items.Given as goal

abbrev pub invariant-loop-id : goal.invariant-loop-id
invariant-loop-id l = l.ids ++ l.id-iterator ≡ l.self
