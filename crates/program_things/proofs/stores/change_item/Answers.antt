use Rattle.program_things.proofs.Called.{renamed}
use Rattle.program_things.proofs.Same.{change_item_is}
use Rattle.program_things.proofs.stores.change_item.Goals as goal

pub returns : goal.returns
returns c =
    renamed c.step_item.result _ _ c.step_item.new.c
    (change_item_is c.args.kind c.args.number c.args.c.now c.take-on.result c.take-at.result c.take-at.new.stack c.take-on.new.stack c.take-at.ensures c.take-on.ensures) c.step_item.ensures
