use Rattle.std.proofs.Common.{Some, None, ap, subst, ◌∙◌}
use Rattle.builtin_sizes.specs.Sizes.{sized}
use Rattle.builtin_table.specs.Meanings.{meaning}
use Rattle.stack_code.specs.Things.{answered_next}
use Rattle.program_things.specs.Steps.{ChargesSize}
use Rattle.program_things.proofs.Called.{renamed}
use Rattle.program_things.proofs.Made.{sized_behind, sized_over, sized_top}
use Rattle.program_things.proofs.builtins.cells_next.Goals as goal

pub returns-in-Some : goal.returns-in-Some
returns-in-Some c =
    let m = meaning c.args.which c.args.cells.now in
    sized_over (sized m) c.args.c.now (λ d. answered_next m d c.args.c.now.top.stack) c.in-Some.moved c.charge_sized.new.c
    (subst (λ n. ChargesSize n c.args.c.now (Some c.in-Some.moved) c.charge_sized.new.c) c.text_size.ensures (subst (λ r. ChargesSize c.text_size.result c.args.c.now r c.charge_sized.new.c) c.in-Some.is c.charge_sized.ensures))

pub returns-in-None : goal.returns-in-None
returns-in-None c =
    let m = meaning c.args.which c.args.cells.now in
    let h = subst (λ n. ChargesSize n c.args.c.now None c.charge_sized.new.c) c.text_size.ensures (subst (λ r. ChargesSize c.text_size.result c.args.c.now r c.charge_sized.new.c) c.in-None.is c.charge_sized.ensures) in
    renamed c.answered_next.result _ _ c.answered_next.new.c
    (sized_behind (sized m) c.args.c.now c.charge_sized.new.c (λ d. answered_next m d c.args.c.now.top.stack) h
    ∙ ap (λ t. answered_next m c.charge_sized.new.c t.stack) (sized_top (sized m) c.args.c.now c.charge_sized.new.c h)) c.answered_next.ensures
