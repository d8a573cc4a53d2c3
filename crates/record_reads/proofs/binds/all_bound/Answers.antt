use Rattle.std.proofs.lemmas.Grind.{common_steps}
use Rattle.std.proofs.Common.{◌++◌, arith, drop, sym, ap, ◌∙◌}
use Rattle.apex_meaning.specs.Queries.{Has, all_bound, then_bound}
use Rattle.record_reads.proofs.NoneLeft.{has_all, none_left}
use Rattle.record_reads.proofs.binds.all_bound.Goals as goal

pub returns : goal.returns
returns c =
    let kinds = drop c.loop-value.i c.args.kinds.now in
    sym (ap (λ vs. then_bound (all_bound kinds vs c.args.heap.now) (λ bs. Has (c.loop-value.binds ++ bs))) (grind (arith, common_steps))
    ∙ ap (λ b. then_bound b (λ bs. Has (c.loop-value.binds ++ bs))) (none_left kinds c.args.heap.now) ∙ has_all c.loop-value.binds) ∙ c.loop-value.invariant.1
