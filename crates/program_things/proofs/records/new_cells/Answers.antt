use Rattle.std.proofs.lemmas.Grind.{common_steps}
use Rattle.std.proofs.Common.{arith, drop, sym, ap, ◌∙◌}
use Rattle.request_states.specs.Expressions.{with_pairs}
use Rattle.stack_code.specs.Things.{paired}
use Rattle.program_things.proofs.Lists.{paired_none}
use Rattle.program_things.proofs.records.new_cells.Goals as goal

pub returns : goal.returns
returns c =
    sym (ap (λ vs. with_pairs (paired (drop c.loop-value.i c.args.fields.now) vs) c.loop-value.cells) (grind (arith, common_steps)) ∙ ap (λ ps. with_pairs ps c.loop-value.cells) (paired_none (drop c.loop-value.i c.args.fields.now))) ∙ c.loop-value.invariant.1
