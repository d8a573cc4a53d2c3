use Rattle.std.proofs.Common.{sym, ap, subst, ◌∙◌}
use Rattle.stack_code.specs.declared.state.Config.{Config}
use Rattle.stack_code.specs.Machine.{next, with_heap}
use Rattle.stack_code.specs.Things.{field_stored}
use Rattle.program_things.specs.Steps.{IsStep}
use Rattle.program_things.proofs.Fields.{stored_none, stored_some}
use Rattle.program_things.proofs.Same.{top_is}
use Rattle.program_things.proofs.stores.act_set_own.Goals as goal

pub returns-in_ok-change-in-Some : goal.returns-in_ok-change-in-Some
returns-in_ok-change-in-Some c =
    let before = c.args.c.now in let rest = c.take-value.new.stack in let go = λ (d : Config). next d rest in
    subst (λ x. IsStep x c.next.result c.next.new.c) (sym
    (top_is before.top.stack rest c.take-value.result (λ v stack. field_stored c.args.place before.top.here.this v before (λ d. next d stack)) c.take-value.ensures
    ∙ stored_some c.args.place before.top.here.this c.take-value.result c.in-Some.instance before go (sym c.instance_named.ensures ∙ c.in-Some.is)
    ∙ sym (ap (λ h. go (with_heap before h)) c.in_ok-change-in-Some.ensures))) c.next.ensures

pub returns-in-None : goal.returns-in-None
returns-in-None c =
    let before = c.args.c.now in let rest = c.take-value.new.stack in
    subst (λ x. IsStep x c.raise.result c.raise.new.c) (sym
    (top_is before.top.stack rest c.take-value.result (λ v stack. field_stored c.args.place before.top.here.this v before (λ d. next d stack)) c.take-value.ensures
    ∙ stored_none c.args.place before.top.here.this c.take-value.result before (λ d. next d rest) (sym c.instance_named.ensures ∙ c.in-None.is))) c.raise.ensures
