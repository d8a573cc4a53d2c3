use Rattle.std.proofs.Common.{◌∷◌, sym, ap, subst, ◌∙◌}
use Rattle.stack_code.specs.declared.state.Config.{Config}
use Rattle.stack_code.specs.Machine.{next, with_heap}
use Rattle.program_things.specs.Steps.{IsStep}
use Rattle.program_things.proofs.Called.{renamed}
use Rattle.program_things.proofs.Fields.{stored_none, stored_some}
use Rattle.program_things.proofs.stores.field_stored.Goals as goal

pub returns-in_ok-change-in-Some : goal.returns-in_ok-change-in-Some
returns-in_ok-change-in-Some c =
    let before = c.args.c.now in let go = λ (d : Config). next d (c.args.put ∷ before.top.stack) in
    renamed c.next_with.result _ _ c.next_with.new.c
    (stored_some c.args.place c.args.on.now c.args.value c.in-Some.instance before go (sym c.instance_named.ensures ∙ c.in-Some.is)
    ∙ sym (ap (λ h. go (with_heap before h)) c.in_ok-change-in-Some.ensures)) c.next_with.ensures

pub returns-in-None : goal.returns-in-None
returns-in-None c =
    subst (λ x. IsStep x c.raise.result c.raise.new.c)
    (sym (stored_none c.args.place c.args.on.now c.args.value c.args.c.now (λ d. next d (c.args.put ∷ c.args.c.now.top.stack)) (sym c.instance_named.ensures ∙ c.in-None.is))) c.raise.ensures
