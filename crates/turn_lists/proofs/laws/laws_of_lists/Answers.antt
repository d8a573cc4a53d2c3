use Rattle.turn_lists.proofs.Only.{only}
use Rattle.turn_lists.proofs.laws.laws_of_lists.Goals as goal

pub returns : goal.returns
returns c = record { only = only }
