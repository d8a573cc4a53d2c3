use Rattle.program_things.proofs.collections.take_pair.Goals as goal

pub returns : goal.returns
returns c = (c.take-value.new.stack, c.take-value.ensures, c.take-key.ensures)
