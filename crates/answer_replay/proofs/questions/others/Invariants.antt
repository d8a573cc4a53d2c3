use Rattle.std.proofs.Common.{◌≡◌, ◌++◌, drop}
use Rattle.store_inquiries.specs.Questions.{others}
use Rattle.answer_replay.proofs.questions.others.Given as goal

abbrev pub invariant-loop-id : goal.invariant-loop-id
invariant-loop-id l = l.others ++ others l.ticket (drop l.id-index l.ids) ≡ others l.ticket l.ids
