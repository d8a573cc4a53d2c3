use Rattle.typed_operations.proofs.NullSides.{null_sides}
use Rattle.typed_operations.proofs.laws.laws_of_null.Goals as goal

pub returns : goal.returns
returns c = null_sides
