use Rattle.std.proofs.Common.{subst, length}
use Rattle.value_texts.specs.Pieces.{Walks}
use Rattle.value_texts.proofs.Opened.{thing_at}
use Rattle.value_texts.proofs.walk.tell.Goals as goal

pub returns-in-Object : goal.returns-in-Object
returns-in-Object c =
    subst (λ x. Walks c.args.scene.now x c.args.line.now c.args.stack.now c.tell_thing.new.line c.tell_thing.new.stack c.tell_thing.result)
    (thing_at c.args.scene.now (length c.args.stack.now) c.in-Object.thing c.args.value.now c.requires.deep c.in-Object.is) c.tell_thing.ensures
