use Rattle.number_methods.proofs.LawSteps.{whole_of_text, letter_goes, decimal_of_text}
use Rattle.number_methods.proofs.laws.laws_of_texts.Goals as goal

pub returns-clause-whole : goal.returns-clause-whole
returns-clause-whole c = whole_of_text

pub returns-clause-letter : goal.returns-clause-letter
returns-clause-letter c = letter_goes

pub returns-clause-decimal : goal.returns-clause-decimal
returns-clause-decimal c = decimal_of_text
