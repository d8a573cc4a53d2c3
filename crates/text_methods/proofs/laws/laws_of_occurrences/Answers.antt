use Rattle.text_methods.proofs.LawSteps.{replaced_by_itself, replaced_nowhere, counted_nowhere, removed_size}
use Rattle.text_methods.proofs.LawSides.{replaced_from_first, counted_from_first}
use Rattle.text_methods.proofs.laws.laws_of_occurrences.Goals as goal

pub returns-clause-by_itself : goal.returns-clause-by_itself
returns-clause-by_itself c = replaced_by_itself

pub returns-clause-nowhere : goal.returns-clause-nowhere
returns-clause-nowhere c = replaced_nowhere

pub returns-clause-counted : goal.returns-clause-counted
returns-clause-counted c = counted_nowhere

pub returns-clause-removed : goal.returns-clause-removed
returns-clause-removed c = removed_size

pub returns-clause-replaced : goal.returns-clause-replaced
returns-clause-replaced c = replaced_from_first

pub returns-clause-counted_more : goal.returns-clause-counted_more
returns-clause-counted_more c = counted_from_first
