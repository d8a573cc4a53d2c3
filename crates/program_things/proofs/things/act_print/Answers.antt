use Rattle.std.proofs.Common.{◌+◌, length, refl, ◌∙◌}
use Rattle.apex_num.specs.declared.kind.LimitKind.TheVariants.{Alloc}
use Rattle.value_texts.specs.Texts.{text_of}
use Rattle.stack_code.specs.Things.{print_next}
use Rattle.program_things.proofs.Called.{renamed}
use Rattle.program_things.proofs.Same.{charged_alike, top_is}
use Rattle.program_things.proofs.things.act_print.Goals as goal

pub returns : goal.returns
returns c =
    let before = c.args.c.now in
    renamed c.print_next.result _ _ c.print_next.new.c
    (top_is before.top.stack c.take-value.new.stack c.take-value.result (λ v stack. print_next (record { schema = c.args.schema.now; ticket = c.args.ticket }) c.args.image.now v before stack) c.take-value.ensures
    ∙ charged_alike Alloc (16 + length (text_of c.args.schema.now c.args.image.now.names before.world.heap c.take-value.result)) before c.take-value.new.stack _ _ (λ w. refl)) c.print_next.ensures
