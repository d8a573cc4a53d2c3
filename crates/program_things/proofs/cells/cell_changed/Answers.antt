use Rattle.std.proofs.Common.{◌∷◌, cond, sym, ap, ◌∙◌}
use Rattle.stack_code.specs.Machine.{next, on_calc}
use Rattle.stack_code.specs.Things.{cell_stored}
use Rattle.program_things.proofs.Called.{renamed}
use Rattle.program_things.proofs.cells.cell_changed.Goals as goal

pub returns-in_ok-value-in-Val : goal.returns-in_ok-value-in-Val
returns-in_ok-value-in-Val c =
    let before = c.args.c.now in let stack = before.top.stack in let field = c.args.field in let on = c.args.on.now in let old = c.args.old in let first = c.args.kind.before in
    renamed c.cell_stored.result _ _ c.cell_stored.new.c
    (ap (λ r. on_calc r before (λ new. cell_stored field on new before (λ e. next e (cond first new old ∷ stack)))) (sym c.stepped.ensures ∙ c.in-Val.is)
    ∙ sym (ap (λ v. cell_stored field on v before (λ e. next e (cond first c.in-Val.new old ∷ stack))) c.in_ok-value-in-Val.ensures)
    ∙ sym (ap (λ p. cell_stored field on c.in_ok-value-in-Val.value before (λ e. next e (p ∷ stack))) c.chosen.ensures)) c.cell_stored.ensures
