use Rattle.std.proofs.Common.{ap, ◌∙◌, sym}
use Rattle.apex_meaning.specs.Exceptions.{is_built_in}
use Rattle.stack_code.specs.Things.{cast_if, cast_next}
use Rattle.program_things.proofs.Called.{renamed}
use Rattle.program_things.proofs.Same.{cast_is, top_is, with_stack}
use Rattle.program_things.proofs.things.act_cast_exception.Goals as goal

pub returns : goal.returns
returns c =
    let good = is_built_in c.args.class in
    renamed c.cast_if.result _ _ c.cast_if.new.c
    (top_is c.args.c.now.top.stack c.take-value.new.stack c.take-value.result (λ v stack. cast_next good v c.args.c.now stack) c.take-value.ensures
    ∙ cast_is good c.take-value.result c.args.c.now c.take-value.new.stack c.take-value.new.stack
    ∙ sym (ap (λ b. cast_if b c.take-value.result (with_stack c.args.c.now c.take-value.new.stack) c.take-value.new.stack) c.is_exception_of-good.ensures)) c.cast_if.ensures
