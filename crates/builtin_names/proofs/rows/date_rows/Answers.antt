use Rattle.std.proofs.Common.{refl}
use Rattle.builtin_names.specs.Names.{date_methods}
use Rattle.builtin_names.proofs.rows.date_rows.Goals as goal

pub returns : goal.returns
unfolding date_methods
returns c = refl
