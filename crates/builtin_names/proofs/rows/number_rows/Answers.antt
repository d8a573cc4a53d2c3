use Rattle.std.proofs.Common.{refl}
use Rattle.builtin_names.specs.Names.{number_methods}
use Rattle.builtin_names.proofs.rows.number_rows.Goals as goal

pub returns : goal.returns
unfolding number_methods
returns c = refl
