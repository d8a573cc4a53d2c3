use Rattle.text_methods.proofs.LawSteps.{length_adds, part_fits}
use Rattle.text_methods.proofs.LawSides.{part_exactly, left_is_front, right_is_back, mid_is_left}
use Rattle.text_methods.proofs.laws.laws_of_parts.Goals as goal

pub returns-clause-length : goal.returns-clause-length
returns-clause-length c = length_adds

pub returns-clause-substring : goal.returns-clause-substring
returns-clause-substring c = part_fits

pub returns-clause-substring_none : goal.returns-clause-substring_none
returns-clause-substring_none c = part_exactly

pub returns-clause-left : goal.returns-clause-left
returns-clause-left c = left_is_front

pub returns-clause-right : goal.returns-clause-right
returns-clause-right c = right_is_back

pub returns-clause-mid_left : goal.returns-clause-mid_left
returns-clause-mid_left c = mid_is_left
