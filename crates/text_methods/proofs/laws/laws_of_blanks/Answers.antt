use Rattle.text_methods.proofs.LawSteps.{trims_both_ends, pads_to, repeated_size, numeric_is_digits, blank_is_white}
use Rattle.text_methods.proofs.LawSides.{pads_its_side}
use Rattle.text_methods.proofs.laws.laws_of_blanks.Goals as goal

pub returns-clause-trim : goal.returns-clause-trim
returns-clause-trim c = trims_both_ends

pub returns-clause-pad : goal.returns-clause-pad
returns-clause-pad c = pads_to

pub returns-clause-repeat : goal.returns-clause-repeat
returns-clause-repeat c = repeated_size

pub returns-clause-numeric : goal.returns-clause-numeric
returns-clause-numeric c = numeric_is_digits

pub returns-clause-blank : goal.returns-clause-blank
returns-clause-blank c = blank_is_white

pub returns-clause-pad_side : goal.returns-clause-pad_side
returns-clause-pad_side c = pads_its_side
