use Rattle.std.proofs.Common.{[], ◌∷◌, sym, ap, ◌∙◌}
use Rattle.stack_code.specs.declared.code.Slot.TheVariants as S
use Rattle.stack_code.specs.Machine.{next}
use Rattle.stack_code.specs.Things.{stored}
use Rattle.program_things.proofs.Called.{renamed}
use Rattle.program_things.proofs.Same.{set_item_is, with_stack}
use Rattle.program_things.proofs.stores.set_item.Goals as goal

pub returns : goal.returns
returns c =
    renamed c.item_stored.result _ _ c.item_stored.new.c
    (set_item_is c.args.c.now c.take-on.result c.take-at.result c.take-value.result c.take-value.new.stack c.take-at.new.stack c.take-on.new.stack c.take-value.ensures c.take-at.ensures c.take-on.ensures
    ∙ sym (ap (λ v. stored S.Item (c.take-on.result ∷ c.take-at.result ∷ []) v (with_stack c.args.c.now c.take-on.new.stack) (λ d. next d (c.take-value.result ∷ c.take-on.new.stack))) c.in_ok-copy.ensures)) c.item_stored.ensures
