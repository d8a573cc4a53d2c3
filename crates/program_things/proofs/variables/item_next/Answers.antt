use Rattle.std.proofs.Common.{[], ◌∷◌, sym, ap, ◌∙◌}
use Rattle.builtin_table.specs.declared.method.Builtin.TheVariants as B
use Rattle.builtin_table.specs.declared.method.ListMethod.TheVariants as L
use Rattle.stack_code.specs.Machine.{next}
use Rattle.program_things.proofs.Framed.{framed}
use Rattle.program_things.proofs.Called.{given, renamed}
use Rattle.program_things.proofs.variables.item_next.Goals as goal

pub returns-in-Ok : goal.returns-in-Ok
returns-in-Ok c =
    renamed c.next_with.result _ _ c.next_with.new.c
    (given (B.List L.Get) c.args.on.now (c.args.at ∷ []) c.args.c.now c.collect.new.c c.in-Ok.value c.in_ok-value.field-0 c.in-Ok.is c.in_ok-value.ensures.does (λ v d. next d (v ∷ c.args.c.now.top.stack))
    ∙ sym (ap (λ t. next c.collect.new.c (c.in-Ok.value ∷ t.stack)) (framed c.args.c.now c.collect.new.c c.in-Ok.value c.in_ok-value.field-0 c.in-Ok.is c.in_ok-value.ensures.frame))) c.next_with.ensures
