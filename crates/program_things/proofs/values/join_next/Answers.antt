use Rattle.std.proofs.Common.{◌+◌, ◌∷◌, Some, None, length, sym, ap, subst, ◌∙◌}
use Rattle.apex_num.specs.declared.cell.Cell.TheVariants as C
use Rattle.apex_num.specs.declared.kind.LimitKind.TheVariants.{Alloc}
use Rattle.txn_heap.specs.declared.thing.Value.TheVariants.{Plain}
use Rattle.value_operators.specs.Operators.{joined}
use Rattle.stack_code.specs.Machine.{next}
use Rattle.program_things.specs.Steps.{Charges, ChargesSize}
use Rattle.program_things.proofs.Called.{renamed}
use Rattle.program_things.proofs.Charged.{charged_over}
use Rattle.program_things.proofs.Made.{text_behind}
use Rattle.program_things.proofs.values.join_next.Goals as goal

pub returns-in-Some : goal.returns-in-Some
returns-in-Some c =
    let text = joined c.args.v.now c.args.w.now in
    charged_over Alloc (16 + length text) c.args.c.now _ c.in-Some.moved c.charge_sized.new.c
    (subst (λ n. Charges Alloc (16 + n) c.args.c.now (Some c.in-Some.moved) c.charge_sized.new.c) c.joined_size.ensures (subst (λ r. ChargesSize (Some c.joined_size.result) c.args.c.now r c.charge_sized.new.c) c.in-Some.is c.charge_sized.ensures))

pub returns-in_ok-text-in-None : goal.returns-in_ok-text-in-None
returns-in_ok-text-in-None c =
    let text = joined c.args.v.now c.args.w.now in let e = c.charge_sized.new.c in
    renamed c.next_with.result _ _ c.next_with.new.c
    (text_behind text c.args.c.now e
    (subst (λ n. Charges Alloc (16 + n) c.args.c.now None e) c.joined_size.ensures (subst (λ r. ChargesSize (Some c.joined_size.result) c.args.c.now r e) c.in-None.is c.charge_sized.ensures))
    ∙ sym (ap (λ t. next e (Plain (C.Text t) ∷ e.top.stack)) c.in_ok-text-in-None.ensures)) c.next_with.ensures
