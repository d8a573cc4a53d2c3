use Rattle.value_operators.proofs.Rounding.{rounded_is}
use Rattle.value_operators.proofs.laws.laws_of_numbers.Goals as goal

pub returns-clause-rounds : goal.returns-clause-rounds
returns-clause-rounds c = rounded_is
