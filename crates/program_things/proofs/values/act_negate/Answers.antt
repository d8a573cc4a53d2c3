use Rattle.std.proofs.Common.{◌∷◌, refl, sym, ap, ◌∙◌}
use Rattle.value_operators.specs.Operators.{negated}
use Rattle.stack_code.specs.Machine.{next, on_calc}
use Rattle.program_things.proofs.Called.{renamed}
use Rattle.program_things.proofs.Same.{calc_alike, top_is, with_stack}
use Rattle.program_things.proofs.values.act_negate.Goals as goal

pub returns : goal.returns
returns c =
    let before = c.args.c.now in let rest = c.take-value.new.stack in
    renamed c.calc_next.result _ _ c.calc_next.new.c
    (top_is before.top.stack rest c.take-value.result (λ v stack. on_calc (negated c.args.number v) before (λ w. next before (w ∷ stack))) c.take-value.ensures
    ∙ calc_alike (negated c.args.number c.take-value.result) before rest _ _ (λ w. refl)
    ∙ sym (ap (λ r. on_calc r (with_stack before rest) (λ w. next (with_stack before rest) (w ∷ rest))) c.negated.ensures)) c.calc_next.ensures
