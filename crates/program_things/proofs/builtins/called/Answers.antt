use Rattle.std.proofs.Common.{◌∷◌, sym, ap, ◌∙◌}
use Rattle.stack_code.specs.Machine.{next}
use Rattle.program_things.proofs.Framed.{framed}
use Rattle.program_things.proofs.Called.{ended, given, renamed}
use Rattle.program_things.proofs.builtins.called.Goals as goal

pub returns-in-Ok : goal.returns-in-Ok
returns-in-Ok c =
    renamed c.next_with.result _ _ c.next_with.new.c
    (given c.args.which c.args.on.now c.args.args.now c.args.c.now c.collect.new.c c.in-Ok.value c.in_ok-value.field-0 c.in-Ok.is c.in_ok-value.ensures.does (λ v d. next d (v ∷ c.args.c.now.top.stack))
    ∙ sym (ap (λ t. next c.collect.new.c (c.in-Ok.value ∷ t.stack)) (framed c.args.c.now c.collect.new.c c.in-Ok.value c.in_ok-value.field-0 c.in-Ok.is c.in_ok-value.ensures.frame))) c.next_with.ensures

pub returns-in-Err : goal.returns-in-Err
returns-in-Err c =
    ended c.args.which c.args.on.now c.args.args.now c.args.c.now c.collect.new.c c.in-Err.moved c.in_ok-value.field-0 c.in-Err.is c.in_ok-value.ensures.does (λ v d. next d (v ∷ c.args.c.now.top.stack))
