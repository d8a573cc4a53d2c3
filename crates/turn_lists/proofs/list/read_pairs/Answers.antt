use Rattle.turn_lists.proofs.Bytewise.{read_none, read_whole}
use Rattle.turn_lists.proofs.list.read_pairs.Goals as goal

pub returns-in_ok-add-in-SessionNumber : goal.returns-in_ok-add-in-SessionNumber
returns-in_ok-add-in-SessionNumber c =
    read_whole c.args.list.now c.loop-b.at c.loop-b.b-index c.loop-b-test.false c.loop-b.invariant.0 c.loop-b.turns.items c.add.new.turns.items c.in-SessionNumber.tenant c.in-SessionNumber.session c.loop-b.invariant.1 c.in-SessionNumber.is
    (c.in_ok-add-in-SessionNumber.ensures)

pub returns-in_default : goal.returns-in_default
returns-in_default c = λ turns h. read_none c.args.list.now c.loop-b.at c.loop-b.b-index c.loop-b-test.false c.loop-b.invariant.0 c.in_default.not-SessionNumber turns h.0 h.1
