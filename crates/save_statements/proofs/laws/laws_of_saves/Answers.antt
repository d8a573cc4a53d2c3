use Rattle.save_statements.proofs.Sparing.{failed_saves}
use Rattle.save_statements.proofs.laws.laws_of_saves.Goals as goal

pub returns : goal.returns
returns c s = record { failed = failed_saves _ }
