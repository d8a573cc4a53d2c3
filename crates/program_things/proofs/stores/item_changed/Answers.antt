use Rattle.std.proofs.Common.{[], ◌∷◌, cond, sym, ap, ◌∙◌}
use Rattle.stack_code.specs.declared.code.Slot.TheVariants as S
use Rattle.stack_code.specs.Machine.{next, on_calc}
use Rattle.stack_code.specs.Things.{stored}
use Rattle.program_things.proofs.Called.{renamed}
use Rattle.program_things.proofs.stores.item_changed.Goals as goal

pub returns-in_ok-value-in-Val : goal.returns-in_ok-value-in-Val
returns-in_ok-value-in-Val c =
    let before = c.args.c.now in let stack = before.top.stack in let parts = c.args.on.now ∷ c.args.at ∷ [] in let old = c.args.old in let first = c.args.kind.before in
    renamed c.item_stored.result _ _ c.item_stored.new.c
    (ap (λ r. on_calc r before (λ new. stored S.Item parts new before (λ e. next e (cond first new old ∷ stack)))) (sym c.stepped.ensures ∙ c.in-Val.is)
    ∙ sym (ap (λ v. stored S.Item parts v before (λ e. next e (cond first c.in-Val.new old ∷ stack))) c.in_ok-value-in-Val.ensures)
    ∙ sym (ap (λ p. stored S.Item parts c.in_ok-value-in-Val.value before (λ e. next e (p ∷ stack))) c.chosen.ensures)) c.item_stored.ensures
