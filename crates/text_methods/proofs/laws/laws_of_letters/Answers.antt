use Rattle.std.proofs.lemmas.Cmp.{nat_list_cmp_total}
use Rattle.text_methods.proofs.LawSteps.{case_folds}
use Rattle.text_methods.proofs.LawSides.{first_is_large, first_is_small}
use Rattle.text_methods.proofs.laws.laws_of_letters.Goals as goal

pub returns-clause-case : goal.returns-clause-case
returns-clause-case c = case_folds

pub returns-clause-compares : goal.returns-clause-compares
returns-clause-compares c = nat_list_cmp_total

pub returns-clause-large : goal.returns-clause-large
returns-clause-large c = first_is_large

pub returns-clause-small : goal.returns-clause-small
returns-clause-small c = first_is_small
