use Rattle.session_runs.proofs.Machine.{images_evaluate}
use Rattle.session_runs.proofs.laws.laws_of_blocks.Goals as goal

pub returns : goal.returns
returns c = record { evaluates = images_evaluate }
