use Rattle.std.proofs.Common.{refl}
use Rattle.builtin_names.specs.Names.{platform_methods}
use Rattle.builtin_names.proofs.rows.platform_rows.Goals as goal

pub returns : goal.returns
unfolding platform_methods
returns c = refl
