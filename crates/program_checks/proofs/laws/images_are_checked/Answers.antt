use Rattle.program_checks.proofs.Images.{image_checked}
use Rattle.program_checks.proofs.laws.images_are_checked.Goals as goal

pub returns : goal.returns
returns c = λ program. image_checked program
