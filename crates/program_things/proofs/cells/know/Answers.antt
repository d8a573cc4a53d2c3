use Rattle.std.proofs.Common.{◌∷◌, sym, ap, subst, ◌∙◌}
use Rattle.apex_num.specs.declared.kind.LimitKind.TheVariants.{Alloc}
use Rattle.apex_meaning.specs.Places.{with_cell}
use Rattle.txn_heap.specs.Changes.{changed as things_changed, thing_after}
use Rattle.txn_heap.specs.declared.change.Change.TheVariants as Now
use Rattle.stack_code.specs.declared.state.Config.{Config}
use Rattle.stack_code.specs.Machine.{next, with_heap}
use Rattle.program_things.specs.Steps.{Charges}
use Rattle.program_things.proofs.Called.{renamed}
use Rattle.program_things.proofs.Charged.{behind_paid, charged_over}
use Rattle.program_things.proofs.cells.know.Goals as goal

pub returns-in-Some : goal.returns-in-Some
returns-in-Some c =
    charged_over Alloc c.args.setting.1 c.args.c.now _ c.in-Some.moved c.charge.new.c (subst (λ r. Charges Alloc c.args.setting.1 c.args.c.now r c.charge.new.c) c.in-Some.is c.charge.ensures)

pub returns-in_ok-change-in-None : goal.returns-in_ok-change-in-None
returns-in_ok-change-in-None c =
    let before = c.args.c.now in let paid = c.charge.new.c in let stack = before.top.stack in let place = c.args.setting.0.place in
    let h = subst (λ r. Charges Alloc c.args.setting.1 before r paid) c.in-None.is c.charge.ensures in
    renamed c.next_with.result _ _ c.next_with.new.c
    (behind_paid Alloc c.args.setting.1 before paid (λ d. next (with_heap d (with_cell c.args.field c.args.value place d.world.heap)) (c.args.put ∷ stack)) h
    ∙ ap (λ (d : Config). next (with_heap paid (with_cell c.args.field c.args.value place paid.world.heap)) (c.args.put ∷ d.top.stack)) (sym h.1)
    ∙ sym (ap (λ things. next (with_heap paid things) (c.args.put ∷ paid.top.stack))
    (c.in_ok-change-in-None.ensures ∙ ap (λ x. things_changed place (thing_after (Now.Know c.args.field x)) paid.world.heap) c.cell_of.ensures))) c.next_with.ensures
