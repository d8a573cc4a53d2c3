use Rattle.language_laws.proofs.Ends.{rounds_suffice}
use Rattle.language_laws.proofs.laws.laws_of_rounds.Goals as goal

pub returns : goal.returns
returns c = record { suffice = rounds_suffice }
