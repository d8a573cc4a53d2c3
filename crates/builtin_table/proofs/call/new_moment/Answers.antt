use Rattle.std.proofs.Common.{◌∙◌, ap, subst₂, take, drop}
use Rattle.std.proofs.lemmas.List.{take_min, drop_min}
use Rattle.builtin_table.specs.Answers.{Answers}
use Rattle.builtin_table.specs.Meanings.{new_moment_meaning, three_wholes}
use Rattle.builtin_table.proofs.call.new_moment.Goals as goal

pub returns : goal.returns
returns c =
    let args = c.args.args.now in
    subst₂ (λ a b. Answers (new_moment_meaning a b) c.moment_of.result)
    (c.three_wholes.ensures ∙ ap three_wholes (c.split_at.ensures.front ∙ ap (λ n. take n args) c.at_most_three.ensures ∙ take_min 3 args))
    (c.three_wholes-2.ensures ∙ ap three_wholes (c.split_at.ensures.back ∙ ap (λ n. drop n args) c.at_most_three.ensures ∙ drop_min 3 args))
    c.moment_of.ensures
