use Rattle.std.proofs.Common.{◌≡◌, [], drop}
use Rattle.save_meaning.specs.Drafts.{with_ids}
use Rattle.save_meaning.specs.Inserts.{ids_of}
use Rattle.answer_replay.proofs.id_set.IdSet.of_rows.Given as goal

abbrev pub invariant-loop-row : goal.invariant-loop-row
invariant-loop-row l = with_ids (ids_of (drop l.row-index l.rows)) l.ids ≡ with_ids (ids_of l.rows) []
