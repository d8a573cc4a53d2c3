use Rattle.program_means.proofs.Correct.{means}
use Rattle.program_means.proofs.laws.laws_of_images.Goals as goal

pub returns : goal.returns
returns c = record { means = means }
