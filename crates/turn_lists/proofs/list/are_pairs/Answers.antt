use Rattle.turn_lists.proofs.Bytewise.{read_none, word_listed}
use Rattle.turn_lists.proofs.list.are_pairs.Goals as goal

pub returns-in-SessionNumber : goal.returns-in-SessionNumber
returns-in-SessionNumber c = word_listed c.args.list.now c.loop-b.at c.loop-b.b-index c.loop-b-test.false c.loop-b.invariant c.in-SessionNumber.field-0 c.in-SessionNumber.field-1 c.in-SessionNumber.is

pub returns-in_default : goal.returns-in_default
returns-in_default c = read_none c.args.list.now c.loop-b.at c.loop-b.b-index c.loop-b-test.false c.loop-b.invariant c.in_default.not-SessionNumber
