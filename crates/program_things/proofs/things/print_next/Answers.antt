use Rattle.std.proofs.Common.{◌+◌, ◌∷◌, length, subst, sym, ap, ◌∙◌}
use Rattle.request_states.specs.Values.{null}
use Rattle.apex_num.specs.declared.kind.LimitKind.TheVariants.{Alloc}
use Rattle.value_texts.specs.Texts.{text_of}
use Rattle.stack_code.specs.Machine.{next, with_line}
use Rattle.program_things.specs.Steps.{ChargesText}
use Rattle.program_things.proofs.Charged.{behind_paid, charged_over}
use Rattle.program_things.proofs.Called.{renamed}
use Rattle.program_things.proofs.Lines.{line_said}
use Rattle.program_things.proofs.things.print_next.Goals as goal

pub returns-in-Err : goal.returns-in-Err
returns-in-Err c =
    let before = c.args.c.now in let text = text_of c.args.schema.now c.args.image.now.names before.world.heap c.args.value.now in
    let h = subst (λ r. ChargesText text before r c.text_charged.new.c) c.in-Err.is c.in_ok-over.ensures in
    charged_over Alloc (16 + length text) before _ c.in-Err.over c.text_charged.new.c h

pub returns-in_ok-push-in-Ok : goal.returns-in_ok-push-in-Ok
returns-in_ok-push-in-Ok c =
    let before = c.args.c.now in let text = text_of c.args.schema.now c.args.image.now.names before.world.heap c.args.value.now in
    let h = subst (λ r. ChargesText text before r c.text_charged.new.c) c.in-Ok.is c.in_ok-over.ensures in
    renamed c.next_with.result _ _ c.next_with.new.c
    (line_said (record { schema = c.args.schema.now; ticket = c.args.ticket }) c.args.image.now c.args.value.now before c.text_charged.new.c c.in-Ok.text c.push.new.self h c.in_ok-push-in-Ok.ensures.ok)
    c.next_with.ensures
