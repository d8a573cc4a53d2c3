use Rattle.number_methods.proofs.LawSteps.{whole_towards_zero, wraps_bits}
use Rattle.number_methods.proofs.laws.laws_of_numbers.Goals as goal

pub returns-clause-towards_zero : goal.returns-clause-towards_zero
returns-clause-towards_zero c = whole_towards_zero

pub returns-clause-bits : goal.returns-clause-bits
returns-clause-bits c = wraps_bits
