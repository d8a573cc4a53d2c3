use Rattle.std.proofs.Common.{◌≡◌, sym, ap, subst, ◌∙◌}
use Rattle.std.specs.Prelude.{OnOk}
use Rattle.save_meaning.specs.Drafts.{with_id}
use Rattle.answer_replay.proofs.IdSets.{insert_is}
use Rattle.answer_replay.proofs.id_set.IdSet.insert.Goals as goal
use Rattle.answer_replay.proofs.id_set.IdSet.insert.Goals.{in-Ok, in-Err}

pub returns-clause-ok : goal.returns-clause-ok
returns-clause-ok c =
    elim c.match-insert.branch [
      | in-Ok w ↦ subst (λ r. OnOk r (c.insert.new.self.keys ≡ with_id c.args.id c.args.self.now)) (sym w.result-is)
          (w.in-Ok.ensures.keys ∙ insert_is c.args.id c.self.inside.ids.keys ∙ ap (with_id c.args.id) c.self.view_is)
      | in-Err w ↦ subst (λ r. OnOk r (c.insert.new.self.keys ≡ with_id c.args.id c.args.self.now)) (sym w.result-is) tt
    ]
