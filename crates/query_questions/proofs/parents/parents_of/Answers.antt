use Rattle.std.proofs.Common.{◌∙◌}
use Rattle.std.proofs.lemmas.Result.{IfOk-weaker}
use Rattle.query_questions.proofs.Followed.{parents_are}
use Rattle.query_questions.proofs.parents.parents_of.Goals as goal

pub returns : goal.returns
returns c =
    IfOk-weaker c.listed.result _ _
    (λ ps e.
    e
    ∙ parents_are c.args.query.now c.as_slice.result.now c.as_slice-2.result.now c.new-ways.result.keys c.add_paths.new.ways.keys c.add_cond.new.ways.keys c.add_keys.new.ways.keys
    c.as_slice.ensures c.as_slice-2.ensures c.new-ways.ensures.empty c.in_ok-add_paths.ensures c.in_ok-add_cond.ensures c.in_ok-add_keys.ensures) c.listed.ensures
