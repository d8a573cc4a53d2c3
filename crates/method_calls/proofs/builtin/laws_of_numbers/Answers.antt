use Rattle.method_calls.proofs.NumberLaws.{unknown_for_all}
use Rattle.method_calls.proofs.builtin.laws_of_numbers.Goals as goal

pub returns : goal.returns
returns c = unknown_for_all
