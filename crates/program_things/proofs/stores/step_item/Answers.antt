use Rattle.std.proofs.Common.{List, [], ◌∷◌, cond, sym, ap, subst, ◌∙◌}
use Rattle.builtin_table.specs.declared.method.Builtin.TheVariants as B
use Rattle.builtin_table.specs.declared.method.ListMethod.TheVariants as L
use Rattle.value_operators.specs.Operators.{stepped}
use Rattle.stack_code.specs.declared.code.Slot.TheVariants as S
use Rattle.txn_heap.specs.declared.thing.Value.{Value}
use Rattle.stack_code.specs.declared.state.Config.{Config}
use Rattle.program_things.specs.Collects.{Collects}
use Rattle.stack_code.specs.Machine.{next, on_calc}
use Rattle.stack_code.specs.Things.{stored}
use Rattle.program_things.proofs.Framed.{framed}
use Rattle.program_things.proofs.Called.{ended, given, renamed}
use Rattle.program_things.proofs.stores.step_item.Goals as goal

pub returns-in-Ok : goal.returns-in-Ok
returns-in-Ok c =
    let list = c.args.on.now in let at = c.args.at in let kind = c.args.kind in
    let behind = λ (s : List Value) (old : Value) (d : Config). on_calc (stepped kind.up c.args.number old) d (λ new. stored S.Item (list ∷ at ∷ []) new d (λ e. next e (cond kind.before new old ∷ s))) in
    renamed c.item_changed.result _ _ c.item_changed.new.c
    (given (B.List L.Get) list (at ∷ []) c.args.c.now c.collect.new.c c.in-Ok.old c.in_ok-old.field-0 c.in-Ok.is (subst (λ a. Collects (B.List L.Get) list (a ∷ []) c.args.c.now c.in_ok-old.field-0 c.collect.new.c) c.in_ok-copy.ensures c.in_ok-old.ensures.does) (behind c.args.c.now.top.stack)
    ∙ sym (ap (λ t. behind t.stack c.in-Ok.old c.collect.new.c) (framed c.args.c.now c.collect.new.c c.in-Ok.old c.in_ok-old.field-0 c.in-Ok.is c.in_ok-old.ensures.frame))) c.item_changed.ensures

pub returns-in-Err : goal.returns-in-Err
returns-in-Err c =
    let list = c.args.on.now in let at = c.args.at in let kind = c.args.kind in
    ended (B.List L.Get) list (at ∷ []) c.args.c.now c.collect.new.c c.in-Err.moved c.in_ok-old.field-0 c.in-Err.is (subst (λ a. Collects (B.List L.Get) list (a ∷ []) c.args.c.now c.in_ok-old.field-0 c.collect.new.c) c.in_ok-copy.ensures c.in_ok-old.ensures.does)
    (λ old d. on_calc (stepped kind.up c.args.number old) d (λ new. stored S.Item (list ∷ at ∷ []) new d (λ e. next e (cond kind.before new old ∷ c.args.c.now.top.stack))))
