use Rattle.std.proofs.Common.{sym, ap, subst, ◌∙◌}
use Rattle.stack_code.specs.Machine.{next}
use Rattle.stack_code.specs.Things.{set_message}
use Rattle.program_things.specs.Steps.{IsStep}
use Rattle.program_things.proofs.Same.{taken_is, with_stack}
use Rattle.program_things.proofs.Told.{told_behind}
use Rattle.program_things.proofs.things.act_message_this.Goals as goal

pub returns : goal.returns
returns c =
    let before = c.args.c.now in let rest = c.take_values.new.stack in let this = before.top.here.this in let vs = c.in_ok-values.values.items in
    subst (λ x. IsStep x c.next.result c.next.new.c) (sym
    (taken_is c.args.count before.top.stack rest vs (λ ws stack. next (set_message this ws before) stack) c.in_ok-values.ensures
    ∙ told_behind this vs before c.set_message.new.c rest (λ s. s)
    (c.in_ok-set_message.ensures ∙ ap (λ ws. set_message c.in_ok-this.this ws (with_stack before rest)) c.as_slice.ensures.value ∙ ap (λ x. set_message x vs (with_stack before rest)) c.in_ok-this.ensures))) c.next.ensures
