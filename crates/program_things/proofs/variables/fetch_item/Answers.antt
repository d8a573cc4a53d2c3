use Rattle.program_things.proofs.Called.{renamed}
use Rattle.program_things.proofs.Same.{fetch_item_is}
use Rattle.program_things.proofs.variables.fetch_item.Goals as goal

pub returns : goal.returns
returns c =
    renamed c.put_item.result _ _ c.put_item.new.c
    (fetch_item_is c.args.c.now c.in-Some-pop.on c.in-Some.at c.pop.new.self c.pop-2.new.self c.in-Some.ensures c.in-Some-pop.ensures) c.put_item.ensures
