use Rattle.std.proofs.Common.{ap, ◌∙◌}
use Rattle.row_meaning.specs.Stores.{has_id}
use Rattle.answer_replay.proofs.IdSets.{contains_is}
use Rattle.answer_replay.proofs.id_set.IdSet.contains.Goals as goal

pub returns : goal.returns
returns c = c.contains.ensures ∙ contains_is c.args.id.now c.self.inside.ids.keys ∙ ap (λ ids. has_id ids c.args.id.now) c.self.view_is
