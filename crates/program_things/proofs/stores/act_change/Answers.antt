use Rattle.std.proofs.Common.{ap}
use Rattle.stack_code.specs.Things.{change_next}
use Rattle.program_things.proofs.Called.{renamed}
use Rattle.program_things.proofs.stores.act_change.Goals as goal

pub returns-in-Item : goal.returns-in-Item
returns-in-Item c =
    renamed c.change_item.result _ _ c.change_item.new.c (ap (λ slot. change_next c.args.schema.now c.args.kind c.args.number slot c.args.c.now) c.in-Item.is) c.change_item.ensures
