use Rattle.builtin_signatures.proofs.CountSteps.{counts_agree}
use Rattle.builtin_signatures.proofs.laws.laws_of_counts.Goals as goal

pub returns : goal.returns
returns c = counts_agree
