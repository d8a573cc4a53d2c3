use Rattle.program_things.proofs.Called.{renamed}
use Rattle.program_things.proofs.Same.{get_item_is}
use Rattle.program_things.proofs.variables.get_item.Goals as goal

pub returns : goal.returns
returns c =
    renamed c.item_next.result _ _ c.item_next.new.c
    (get_item_is c.args.c.now c.take-on.result c.take-at.result c.take-at.new.stack c.take-on.new.stack c.take-at.ensures c.take-on.ensures) c.item_next.ensures
