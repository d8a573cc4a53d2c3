use Rattle.std.proofs.Common.{[], ◌∷◌, sym, ap, subst, ◌∙◌}
use Rattle.builtin_table.specs.declared.method.Builtin.TheVariants as B
use Rattle.builtin_table.specs.declared.method.ListMethod.TheVariants as L
use Rattle.stack_code.specs.Machine.{next}
use Rattle.program_things.specs.Collects.{Collects}
use Rattle.program_things.proofs.Framed.{framed}
use Rattle.program_things.proofs.Called.{ended, given, renamed}
use Rattle.program_things.proofs.variables.put_item.Goals as goal

pub returns-in_ok-push-in-Ok-2 : goal.returns-in_ok-push-in-Ok-2
returns-in_ok-push-in-Ok-2 c =
    renamed c.next_with.result _ _ c.next_with.new.c
    (given (B.List L.Get) c.args.on (c.args.at ∷ []) c.args.c.now c.collect.new.c c.in-Ok.value c.in_ok-value.field-0 c.in-Ok.is
    (subst (λ a. Collects (B.List L.Get) c.args.on (a ∷ []) c.args.c.now c.in_ok-value.field-0 c.collect.new.c) c.in_ok-copy.ensures c.in_ok-value.ensures.does) (λ v d. next d (v ∷ c.args.at ∷ c.args.on ∷ c.args.c.now.top.stack))
    ∙ sym (ap (λ t. next c.collect.new.c (c.in-Ok.value ∷ c.args.at ∷ c.args.on ∷ t.stack)) (framed c.args.c.now c.collect.new.c c.in-Ok.value c.in_ok-value.field-0 c.in-Ok.is c.in_ok-value.ensures.frame))
    ∙ sym (ap (λ s. next c.collect.new.c (c.in-Ok.value ∷ s)) (c.in_ok-push-in-Ok-2.ensures.ok ∙ ap (λ s. c.args.at ∷ s) c.in_ok-push-in-Ok.ensures.ok))) c.next_with.ensures

pub returns-in-Err : goal.returns-in-Err
returns-in-Err c =
    ended (B.List L.Get) c.args.on (c.args.at ∷ []) c.args.c.now c.collect.new.c c.in-Err.moved c.in_ok-value.field-0 c.in-Err.is
    (subst (λ a. Collects (B.List L.Get) c.args.on (a ∷ []) c.args.c.now c.in_ok-value.field-0 c.collect.new.c) c.in_ok-copy.ensures c.in_ok-value.ensures.does) (λ v d. next d (v ∷ c.args.at ∷ c.args.on ∷ c.args.c.now.top.stack))
