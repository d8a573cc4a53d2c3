use Rattle.std.proofs.Common.{◌<◌, ap, subst, ◌∙◌}
use Rattle.request_states.specs.States.{put_at}
use Rattle.program_things.proofs.Lists.{filled}
use Rattle.program_things.proofs.variables.fill.Goals as goal

pub fill-preserved : goal.fill-preserved
fill-preserved c =
    λ v. ap (λ xs. put_at c.args.slot v xs) c.in_ok-push.ensures.ok ∙ filled c.args.slot v c.fill.locals (subst (λ n. n < c.args.slot) c.len.ensures c.fill-test.true) ∙ c.fill.invariant v
