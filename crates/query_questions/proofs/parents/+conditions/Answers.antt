use Rattle.std.proofs.Common.{sym, ap, ◌∙◌}
use Rattle.std.proofs.lemmas.Result.{on_ok_weaker}
use Rattle.query_meaning.specs.Parents.{cond_paths}
use Rattle.query_questions.specs.Ways.{leading, with_ways}
use Rattle.query_questions.proofs.Folded.{paths_All, paths_Any}
use Rattle.query_questions.proofs.parents.+conditions.Goals as goal

pub add_cond-returns-in-All : goal.add_cond-returns-in-All
add_cond-returns-in-All t c =
    on_ok_weaker c.add_conds.result (λ e. e ∙ ap (λ ps. with_ways c.args.ways.now.keys (leading ps)) (sym (paths_All c.in-All.conds) ∙ ap cond_paths (sym c.in-All.is))) c.add_conds.ensures

pub add_cond-returns-in-Any : goal.add_cond-returns-in-Any
add_cond-returns-in-Any t c =
    on_ok_weaker c.add_conds-in-Any.result (λ e. e ∙ ap (λ ps. with_ways c.args.ways.now.keys (leading ps)) (sym (paths_Any c.in-Any.conds) ∙ ap cond_paths (sym c.in-Any.is))) c.add_conds-in-Any.ensures
