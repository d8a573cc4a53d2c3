use Rattle.builtin_table.proofs.LawSteps.{compared_back, empty_is_blank, id_of_text}
use Rattle.builtin_table.proofs.laws.laws_of_texts.Goals as goal

pub returns-clause-compared : goal.returns-clause-compared
returns-clause-compared c = compared_back

pub returns-clause-empty : goal.returns-clause-empty
returns-clause-empty c = empty_is_blank

pub returns-clause-id : goal.returns-clause-id
returns-clause-id c = id_of_text
