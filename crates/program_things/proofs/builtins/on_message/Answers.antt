use Rattle.std.proofs.Common.{sym, subst, ◌∙◌}
use Rattle.apex_meaning.specs.Exceptions.{message_of_thing}
use Rattle.stack_code.specs.Things.{message_next}
use Rattle.program_things.specs.Steps.{IsStep}
use Rattle.program_things.proofs.Called.{renamed}
use Rattle.program_things.proofs.Made.{message_none, message_some}
use Rattle.program_things.proofs.builtins.on_message.Goals as goal

pub returns-in-Some : goal.returns-in-Some
returns-in-Some c =
    renamed c.message_next.result _ _ c.message_next.new.c
    (message_some c.args.on.now c.args.c.now c.in-Some.message (λ m. message_next m c.args.c.now c.args.c.now.top.stack) (sym c.in_ok-message.ensures ∙ c.in-Some.is)) c.message_next.ensures

pub returns-in-None : goal.returns-in-None
returns-in-None c =
    subst (λ x. IsStep x c.raise.result c.raise.new.c)
    (sym (message_none c.args.on.now c.args.c.now (λ t. message_next (message_of_thing t) c.args.c.now c.args.c.now.top.stack) (sym c.in_ok-message.ensures ∙ c.in-None.is))) c.raise.ensures
