use Rattle.std.proofs.Common.{◌∷◌, ap, ◌∙◌}
use Rattle.stack_code.specs.Machine.{next, on_taken}
use Rattle.stack_code.specs.Things.{set_message}
use Rattle.program_things.proofs.Called.{renamed}
use Rattle.program_things.proofs.Same.{taken_is, top_is, with_stack}
use Rattle.program_things.proofs.Told.{told_behind}
use Rattle.program_things.proofs.things.act_message.Goals as goal

pub returns : goal.returns
returns c =
    let before = c.args.c.now in let mid = c.take-this.new.stack in let rest = c.take_values.new.stack in let this = c.take-this.result in let vs = c.in_ok-values.values.items in
    renamed c.next_with.result _ _ c.next_with.new.c
    (top_is before.top.stack mid this (λ x under. on_taken c.args.count under (λ ws stack. next (set_message x ws before) (x ∷ stack))) c.take-this.ensures
    ∙ taken_is c.args.count mid rest vs (λ ws stack. next (set_message this ws before) (this ∷ stack)) c.in_ok-values.ensures
    ∙ told_behind this vs before c.set_message.new.c rest (λ s. this ∷ s) (c.in_ok-set_message.ensures ∙ ap (λ ws. set_message this ws (with_stack before rest)) c.as_slice.ensures.value)) c.next_with.ensures
