use Rattle.std.proofs.Common.{ap, sym, ◌∙◌}
use Rattle.apex_meaning.specs.Builtins.{first_of, rest_of}
use Rattle.stack_code.specs.Things.{error_next}
use Rattle.program_things.proofs.Called.{renamed}
use Rattle.program_things.proofs.builtins.on_error.Goals as goal

pub returns : goal.returns
returns c =
    let before = c.args.c.now in let values = c.args.values.now in
    renamed c.error_next.result _ _ c.error_next.new.c
    (ap (λ v. error_next v (first_of (rest_of values)) before before.top.stack) (sym c.in_ok-on.ensures)
    ∙ ap (λ v. error_next c.in_ok-on.on v before before.top.stack) (sym c.in_ok-message.ensures)) c.error_next.ensures
