use Rattle.std.proofs.Common.{ap, sym, ◌∙◌}
use Rattle.stack_code.specs.Things.{error_next, message_added}
use Rattle.program_things.proofs.Called.{renamed}
use Rattle.program_things.proofs.builtins.error_next.Goals as goal

pub returns-in-Object : goal.returns-in-Object
returns-in-Object c =
    let before = c.args.c.now in
    renamed c.message_added.result _ _ c.message_added.new.c
    (ap (λ v. error_next v c.args.message before before.top.stack) c.in-Object.is
    ∙ ap (λ m. message_added m c.in-Object.thing.place before before.top.stack) (sym c.cell_of.ensures)) c.message_added.ensures
