use Rattle.save_statements.proofs.Follows.{moves_save}
use Rattle.save_statements.proofs.laws.laws_of_moves.Goals as goal

pub returns : goal.returns
returns c = record { save = moves_save }
