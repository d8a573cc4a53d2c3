use Rattle.std.proofs.Common.{◌≡◌, Ok, Err, Some, ◌∙◌, subst, sym, ap}
use Rattle.apex_num.specs.declared.kind.LimitKind.TheVariants.{Alloc}
use Rattle.value_texts.specs.Texts.{text_of}
use Rattle.stack_code.specs.Machine.{limited}
use Rattle.program_things.specs.Steps.{ChargesText, IsStep}
use Rattle.program_things.proofs.Charged.{over_charges, text_made, text_over, text_paid, with_meter}
use Rattle.program_things.proofs.things.text_charged.Goals as goal

pub returns-in-Ok : goal.returns-in-Ok
returns-in-Ok c =
    let before = c.args.c.now in
    let text = text_of c.args.schema.now c.as_slice-names.result.now before.world.heap c.args.value.now in
    let h = text_made text before.world.txn.meter c.charged_text.new.meter c.in-Ok.text c.in_ok-text.field-0 c.in-Ok.is c.in_ok-text.ensures.answer in
    subst (λ ns. ChargesText (text_of c.args.schema.now ns before.world.heap c.args.value.now) before (Ok c.in-Ok.text) (with_meter c.charged_text.new.meter before)) c.as_slice-names.ensures
    (text_paid text c.in-Ok.text c.charged_text.new.meter before h.0 h.1 h.2)

pub returns-in-Err : goal.returns-in-Err
returns-in-Err c =
    let before = c.args.c.now in
    let text = text_of c.args.schema.now c.as_slice-names.result.now before.world.heap c.args.value.now in
    let h = text_over text before.world.txn.meter c.charged_text.new.meter c.in-Err.limit c.in_ok-text.field-0 c.in-Err.is c.in_ok-text.ensures.answer in
    let s = subst (λ m. IsStep (limited c.in-Err.limit.kind c.in-Err.limit.number (with_meter m before).world) c.limited.result (with_meter c.charged_text.new.meter before)) h.3 c.limited.ensures in
    subst (λ ns. ChargesText (text_of c.args.schema.now ns before.world.heap c.args.value.now) before (Err c.limited.result) (with_meter c.charged_text.new.meter before)) c.as_slice-names.ensures
    (over_charges text c.charged_text.new.meter before (with_meter c.charged_text.new.meter before) c.in-Err.limit c.limited.result h s)
