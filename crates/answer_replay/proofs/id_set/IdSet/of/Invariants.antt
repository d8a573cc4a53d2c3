use Rattle.std.proofs.Common.{◌≡◌, [], drop}
use Rattle.save_meaning.specs.Drafts.{with_ids}
use Rattle.answer_replay.proofs.id_set.IdSet.of.Given as goal

abbrev pub invariant-loop-id : goal.invariant-loop-id
invariant-loop-id l = with_ids (drop l.id-index l.ids) l.set ≡ with_ids l.ids []
