use Rattle.std.proofs.Common.{[], ◌∷◌, sym, ap, ◌∙◌}
use Rattle.builtin_table.specs.declared.method.Builtin.TheVariants as B
use Rattle.builtin_table.specs.declared.method.ListMethod.TheVariants as L
use Rattle.stack_code.specs.Machine.{next}
use Rattle.program_things.proofs.Framed.{framed}
use Rattle.program_things.proofs.Called.{ended, given, renamed}
use Rattle.program_things.proofs.stores.item_stored.Goals as goal

pub returns-in-Ok : goal.returns-in-Ok
returns-in-Ok c =
    renamed c.next_with.result _ _ c.next_with.new.c
    (given (B.List L.Set) c.args.on.now (c.args.at ∷ c.args.value ∷ []) c.args.c.now c.collect.new.c c.in-Ok.field-0 c.in_ok-collect.field-0 c.in-Ok.is c.in_ok-collect.ensures.does (λ v d. next d (c.args.put ∷ c.args.c.now.top.stack))
    ∙ sym (ap (λ t. next c.collect.new.c (c.args.put ∷ t.stack)) (framed c.args.c.now c.collect.new.c c.in-Ok.field-0 c.in_ok-collect.field-0 c.in-Ok.is c.in_ok-collect.ensures.frame))) c.next_with.ensures

pub returns-in-Err : goal.returns-in-Err
returns-in-Err c =
    ended (B.List L.Set) c.args.on.now (c.args.at ∷ c.args.value ∷ []) c.args.c.now c.collect.new.c c.in-Err.moved c.in_ok-collect.field-0 c.in-Err.is c.in_ok-collect.ensures.does (λ v d. next d (c.args.put ∷ c.args.c.now.top.stack))
