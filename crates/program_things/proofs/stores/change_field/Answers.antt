use Rattle.std.proofs.Common.{sym, ◌∙◌}
use Rattle.program_things.proofs.Called.{renamed}
use Rattle.program_things.proofs.Fields.{change_some}
use Rattle.program_things.proofs.stores.change_field.Goals as goal

pub returns-in-Some : goal.returns-in-Some
returns-in-Some c =
    renamed c.field_changed.result _ _ c.field_changed.new.c
    (change_some c.args.place c.args.c.now c.take-on.result c.args.kind c.args.number c.take-on.new.stack c.take-on.ensures c.in-Some.old (sym c.in_ok-old.ensures ∙ c.in-Some.is)) c.field_changed.ensures
