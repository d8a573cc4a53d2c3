use Rattle.text_methods.proofs.LawSteps.{contains_splits, start_splits, end_splits, first_splits, last_splits, before_and_after, start_goes, end_goes}
use Rattle.text_methods.proofs.LawSides.{first_from_ends, start_stays, end_stays}
use Rattle.text_methods.proofs.laws.laws_of_places.Goals as goal

pub returns-clause-contains : goal.returns-clause-contains
returns-clause-contains c = contains_splits

pub returns-clause-starts : goal.returns-clause-starts
returns-clause-starts c = start_splits

pub returns-clause-ends : goal.returns-clause-ends
returns-clause-ends c = end_splits

pub returns-clause-first : goal.returns-clause-first
returns-clause-first c = first_splits

pub returns-clause-last : goal.returns-clause-last
returns-clause-last c = last_splits

pub returns-clause-before_and_after : goal.returns-clause-before_and_after
returns-clause-before_and_after c = before_and_after

pub returns-clause-without_start : goal.returns-clause-without_start
returns-clause-without_start c = start_goes

pub returns-clause-without_end : goal.returns-clause-without_end
returns-clause-without_end c = end_goes

pub returns-clause-past_the_end : goal.returns-clause-past_the_end
returns-clause-past_the_end c = first_from_ends

pub returns-clause-start_stays : goal.returns-clause-start_stays
returns-clause-start_stays c = start_stays

pub returns-clause-end_stays : goal.returns-clause-end_stays
returns-clause-end_stays c = end_stays
