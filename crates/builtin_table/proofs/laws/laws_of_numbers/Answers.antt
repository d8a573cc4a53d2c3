use Rattle.builtin_table.proofs.LawSteps.{sign_and_size, size_of_type, greatest_and_least, rest_of_quotient, rest_has_sign}
use Rattle.builtin_table.proofs.laws.laws_of_numbers.Goals as goal

pub returns-clause-sign : goal.returns-clause-sign
returns-clause-sign c = sign_and_size

pub returns-clause-size : goal.returns-clause-size
returns-clause-size c = size_of_type

pub returns-clause-greatest : goal.returns-clause-greatest
returns-clause-greatest c = greatest_and_least

pub returns-clause-quotient : goal.returns-clause-quotient
returns-clause-quotient c = rest_of_quotient

pub returns-clause-rest : goal.returns-clause-rest
returns-clause-rest c = rest_has_sign
