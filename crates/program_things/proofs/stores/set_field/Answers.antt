use Rattle.std.proofs.Common.{◌∷◌, sym, ap, ◌∙◌}
use Rattle.stack_code.specs.Machine.{next}
use Rattle.stack_code.specs.Things.{field_stored}
use Rattle.program_things.proofs.Same.{with_stack}
use Rattle.program_things.proofs.Called.{renamed}
use Rattle.program_things.proofs.Fields.{set_is}
use Rattle.program_things.proofs.stores.set_field.Goals as goal

pub returns : goal.returns
returns c =
    renamed c.field_stored.result _ _ c.field_stored.new.c
    (set_is c.args.place c.args.c.now c.take-on.result c.take-value.result c.take-value.new.stack c.take-on.new.stack c.take-value.ensures c.take-on.ensures
    ∙ sym (ap (λ v. field_stored c.args.place c.take-on.result v (with_stack c.args.c.now c.take-on.new.stack) (λ d. next d (c.take-value.result ∷ c.take-on.new.stack))) c.in_ok-copy.ensures)) c.field_stored.ensures
