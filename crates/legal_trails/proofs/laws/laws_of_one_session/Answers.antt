use Rattle.legal_trails.proofs.Alone.{never_refused}
use Rattle.legal_trails.proofs.laws.laws_of_one_session.Goals as goal

pub returns : goal.returns
returns c = record { never_refused = λ tenant n trail e l. never_refused tenant n trail e l }
