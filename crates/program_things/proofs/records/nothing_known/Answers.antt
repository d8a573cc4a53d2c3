use Rattle.std.proofs.Common.{[], ◌∷◌, ◌++◌, None, ap, ◌∙◌}
use Rattle.program_things.proofs.Lists.{replicate_more}
use Rattle.program_things.proofs.records.nothing_known.Goals as goal

pub fill-preserved : goal.fill-preserved
fill-preserved c = c.in_ok-push.ensures.ok ∙ ap (λ xs. xs ++ None ∷ []) c.fill.invariant ∙ replicate_more c.fill.i None
